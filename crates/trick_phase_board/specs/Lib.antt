-- Lists of jobs that a board looks up.
pub mod Tables
-- What a board is.
pub mod Board
-- What the calls of a board answer.
pub mod Answers
-- How the next job of a thread is found.
pub mod Search
-- How many of its predecessors a due job waits for.
pub mod Counts
