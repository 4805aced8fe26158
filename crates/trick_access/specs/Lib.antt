-- Ranges of cells that are in order and as long as can be.
pub mod Ranges
-- What all jobs may read and write, by their ranges.
pub mod Accesses
-- The cells of a block, by the blocks that it reaches, each of them once.
pub mod Reached
-- Laws of what a job may read and write, by the ranges of its cells.
pub mod Laws
