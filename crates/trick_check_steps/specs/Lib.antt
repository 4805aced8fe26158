-- Counts of static steps that stand still.
pub mod Steps
