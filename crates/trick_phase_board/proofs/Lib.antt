-- the tables of a plan
pub mod Lines
-- the first job of a list that is wanted
pub mod Firsts
-- what a thread can do next
pub mod Nexts
-- stages and due jobs
pub mod Stages
-- which stages are not idle
pub mod Among
-- commits and closes
pub mod Ends
-- the calls of a board
pub mod Calls
-- jobs that are passed
pub mod Passed
-- jobs that are found in tables
pub mod Found
-- counts of what due jobs wait for
pub mod Counting
-- the jobs before a job on its thread
pub mod Own
-- ranks of due jobs among those of their threads
pub mod Ranks
-- a job that is taken and at once committed
pub mod Runs
