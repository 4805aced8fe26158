-- A worked example.
mod Example
-- Memories that agree outside the asynchronous reach.
pub mod Memories
-- What each member of a list keeps.
pub mod Members
-- What an accepted plan gives.
pub mod Steady
-- Jobs keep memories that agree outside the asynchronous reach.
pub mod Jobs
-- States that are the same but for asynchronous work.
pub mod States
-- Must-finish work on both sides, and what asynchronous threads do on one.
pub mod Beside
-- Tics on both sides.
pub mod Tics
-- Turns on both sides, under entries that differ in publications alone.
pub mod Turns
-- Runs under lists of entries that differ in publications alone.
pub mod Runs
-- Journals that differ in publications alone give lists that do.
pub mod Journals
