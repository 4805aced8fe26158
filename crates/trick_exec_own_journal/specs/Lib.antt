-- Entries that keep the rules, list after list.
pub mod Rules
-- The journal that a run writes is a journal.
pub mod Written
-- A replay of it writes the same files.
pub mod Replaying
-- What goes on from the last state of a run.
pub mod Last
