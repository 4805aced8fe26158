-- How late rounds were.
pub mod Lateness
-- The threads that have a clerk, and the passes that the clerks are dealt.
pub mod Clerks
-- A plan is data.
pub mod Plans
-- Where the work of a thread begins.
pub mod Beginnings
