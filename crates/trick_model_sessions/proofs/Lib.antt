-- What a turn does, by its lines and publications.
pub mod Lines
-- What turns write of other files than the journal.
pub mod Files
-- The numbers of sessions, and who stays.
pub mod Numbers
-- Which sessions are sent nothing.
pub mod Silence
-- Two runs of the same lines, and a session that leaves.
pub mod Examples
