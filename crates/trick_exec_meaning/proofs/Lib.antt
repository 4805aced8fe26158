-- A turn in Freeze without a line changes nothing but the count of turns.
pub mod Idle
-- A turn is counted once.
pub mod Counts
-- Runs that follow a journal.
pub mod Fitting
-- A run goes on by one turn more, and is that of a journal that is told.
pub mod Goes
-- Steps that were taken, with the calls that were made for them.
pub mod DidLemmas
-- Where a run stopped.
pub mod StopLemmas
-- Lists that may come one after another, and one more.
pub mod Successions
-- Turns, one after another.
pub mod Going
-- The turns of a run are over, or stop.
pub mod Ending
-- A run: its first files, its turns, and its last files.
pub mod Whole
-- The parts of a turn make it.
pub mod PartLemmas
-- Messages, one after another.
pub mod SayLemmas
-- What a turn did, by its parts.
pub mod TurnedLemmas
-- Hearing entries changes neither the count of turns, nor the next tic, nor what is taken.
pub mod Times
-- Turns in Freeze that are given no entry raise the count alone.
pub mod Gaps
