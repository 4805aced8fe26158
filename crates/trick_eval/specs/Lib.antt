-- What a body is seen and run from.
pub mod Evaluation
-- Numbers beside the list of their places.
pub mod Sparse
-- The frames of a stack.
pub mod Frames
-- What a stack of frames still has to do.
pub mod Machine
-- A program that tests run.
pub mod Samples
-- What a bench holds.
pub mod Bench
