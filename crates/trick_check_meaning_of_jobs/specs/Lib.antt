-- What jobs do, by the names of their text.
pub mod Jobs
-- A small file that keeps what the laws ask.
pub mod Example
