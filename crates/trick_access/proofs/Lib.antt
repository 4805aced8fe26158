pub mod Each
pub mod Ends
pub mod Loops
pub mod Marks
pub mod Reached
pub mod Spans
pub mod There
pub mod Weights
