-- What calls that write make of one file.
pub mod Contents
-- The lists of a journal, cut in two at a turn.
pub mod Lists
-- What turns write makes no log and no journal anew.
pub mod Turns
-- What a run writes first and last.
pub mod Ends
-- Sessions that are there join in front of the entries of the first turn.
pub mod Joins
-- The files of the whole run, and those of the run that goes on.
pub mod Remains
-- In a run frame the tic rises.
pub mod Rising
-- A run under a journal, turn after turn.
pub mod Going
