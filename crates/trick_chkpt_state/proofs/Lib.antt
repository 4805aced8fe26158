-- How many items lines have, and each of them.
pub mod Items
-- Numbers of cells in their ranges.
pub mod Numbers
-- The parts of a checkpoint.
pub mod Parts
-- The whole state.
pub mod Whole
-- What states have is what lines hold.
pub mod Holding
-- States have checkpoints.
pub mod Converse
-- The checkpoint of a state is loaded as this state.
pub mod Again
