-- The line of a refusal, by its code and its fields.
pub mod Line
-- The lines of the faults of a text before it is read, and of times.
pub mod Texts
-- The lines of what an S_define is refused for.
pub mod SDefine
-- The lines of what the names of an S_define are refused for.
pub mod Check
-- The lines of what an input is refused for.
pub mod Input
-- The lines of what the join of a program and an input is refused for.
pub mod Join
-- The lines of what a plan is refused for.
pub mod Plan
-- The lines of what a checkpoint is refused for.
pub mod Checkpoint
-- The lines of what a journal is refused for.
pub mod Journal
-- Of the code alone: what a field of a line holds.
pub mod Seen
-- Worked lines.
pub mod Worked
