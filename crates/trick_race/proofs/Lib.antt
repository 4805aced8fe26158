-- The first item without a property.
pub mod Firsts
-- Ranges in order.
pub mod Merging
-- Sets of cells and of jobs.
pub mod Sets
-- The fixed point of the asynchronous reach.
pub mod FixedPoint
-- What the scheduled jobs of threads may write.
pub mod Writing
-- Jobs that may race, in key order.
pub mod Racing
-- What an accepted plan says of the jobs of a tic.
pub mod Settled
-- Two jobs that may race.
pub mod Pairs
-- Ranges that have a cell of a set.
pub mod Touching
