-- That a plan is data: two proofs that plans are the same are the same.
pub mod Plans
-- Which threads get a worker.
pub mod Children
-- What one step of whoever does the jobs of a thread comes to.
pub mod Stepping
-- The members of a crew: works of which each was started or refused.
pub mod Members
-- What a worker leaves.
pub mod Working
-- All hands of a crew are of one hall, and in the end the chief takes them in.
pub mod Hands
