-- The least of tics, over a tree of pairs.
pub mod Tree
-- The next tic of each place of a list, and the first of these tics.
pub mod Calendar
-- Jobs in a line, and their next tics.
pub mod Line
-- Jobs that are due at the same tics.
pub mod Groups
-- A tic that is passed.
pub mod Passed
-- The jobs of several groups, in key order.
pub mod Merged
-- Jobs that are late.
pub mod Late
-- Queues of the scheduled jobs, in groups that are due together.
pub mod Queue
