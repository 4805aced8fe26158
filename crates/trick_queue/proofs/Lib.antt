-- trees of pairs
pub mod Trees
-- key order of some of the jobs
pub mod Orders
-- the jobs of a queue
pub mod Queued
-- a tic that is passed
pub mod Passing
-- what queues that keep their jobs' next tics answer
pub mod Answered
-- lists of numbers that rise, put together and sorted
pub mod Merging
-- groups of jobs, as jobs are added
pub mod Grouping
-- a tic that is passed, group after group
pub mod Passed
-- the jobs of several groups, put together and sorted
pub mod Merged
-- a tic that is asked for
pub mod Asking
-- the late groups and the late jobs
pub mod Late
