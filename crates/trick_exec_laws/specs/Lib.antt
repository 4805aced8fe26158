-- What a run that stopped leaves of its files.
pub mod Left
-- Turns do the same under what they note.
pub mod Noting
-- The files of a run are made once at most.
pub mod Once
-- What runs that stopped leave.
pub mod Stopping
-- How long the rounds of asynchronous threads stay unpublished.
pub mod Waiting
-- How often rounds of asynchronous threads stay unpublished.
pub mod Counted
-- Runs of plans without asynchronous threads.
pub mod Rounds
