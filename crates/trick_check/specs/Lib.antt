-- The parts of classes, and which methods call which.
pub mod Parts
-- What is made of the classes of a file.
pub mod Walk
-- Which refusal a file has.
pub mod Refused
-- Which program a file names.
pub mod Named
-- The parts of a program, before they are joined.
pub mod Draft
