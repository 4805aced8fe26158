-- What a refusal of a plan says.
pub mod Refusals
-- What all jobs may read and write, by their ranges.
pub mod Accesses
-- The jobs that may write what asynchronous work may reach.
pub mod Reached
-- Jobs that may race, in key order.
pub mod Racers
-- What the scheduled jobs of threads may write.
pub mod Writers
-- What holds of a schedule of an accepted plan, at each tic.
pub mod Laws
