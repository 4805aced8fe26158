-- What is added, in the order of its adding.
pub mod Added
-- The plan that the lines of an input give.
pub mod Ending
-- The facts that a plan keeps, of its parts.
pub mod Right
