-- The entries that are left, and the sessions that join at the first turn.
pub mod Due
-- What a replay tells, and what it answers.
pub mod Replay
-- Who gives turns their entries: what it answers, and what it promises.
pub mod Turns
-- How many sessions join.
pub mod Joins
-- Turns in Freeze that are given no entry, all by one answer.
pub mod Gap
