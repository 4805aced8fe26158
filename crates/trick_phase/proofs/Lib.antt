-- how a schedule goes on at a board
pub mod Follows
-- what takes and commits answer
pub mod Turns
-- one thread that takes and commits in key order
pub mod OneByOne
-- steps of any kind, as far as they are a schedule
pub mod Plays
-- tics at which nothing can be due
pub mod Late
