-- A history with one more entry.
pub mod Entries
-- What the board behind the turn says of the history.
pub mod Boards
-- The hall after a take and a commit.
pub mod Stepping
-- The hall after an open, a close and a shut.
pub mod Tics
-- What a take answers and adds.
pub mod Takings
-- What a commit answers and adds.
pub mod Committings
