-- The rules of entries, entry after entry.
pub mod Coming
-- Entries of turns are the entries of a journal.
pub mod Entries
-- Threads beside the tics, by their numbers.
pub mod Threads
-- Publications that were chosen are of rising threads.
pub mod Choosing
-- What turns note keeps the rules.
pub mod Noting
-- The count of turns.
pub mod Turns
-- The text that a run writes.
pub mod Texts
-- The journal of that text, and its run.
pub mod Journals
-- The same text, read again.
pub mod Reading
-- The lists of a run are right.
pub mod Rightness
-- A run from the last state of a run.
pub mod Last
-- The journal of two turns, and entries that are none.
pub mod Examples
