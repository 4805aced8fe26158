mod Lists
-- How much of a tree is left: what a walk goes down by.
pub mod Weights
-- Rows that grow at their ends.
pub mod Build
mod Fitting
mod Grow
mod Depths
pub mod Rows
mod Passing
mod Reaching
mod Running
mod Keeping
mod Sitting
mod Knowing
pub mod Made
mod Worked
pub mod Rowed
