-- Which states have a checkpoint.
pub mod States
-- Whose checkpoint a text is, and what it is loaded as.
pub mod Loaded
