-- What is left of lists, one item after another.
-- Places, part by part.
pub mod Parts
-- Plain conditions are conditions of events.
pub mod Holding
-- Conditions that are resolved, part by part.
pub mod Resolved
