-- the ranges of cells
pub mod Ranges
-- the lines of faults
pub mod Faults
-- the checkpoints of a plan as a file of lines
pub mod CheckpointLines
