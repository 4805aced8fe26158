-- The jobs of a thread, with the next tic of each.
pub mod Calendars
-- A memory that nobody else sees, and what is written of it into another one.
pub mod Scratch
-- What was handed to a thread, and what a worker has.
pub mod Trays
-- What the work of a thread comes to, and the parcel in which it travels.
pub mod Outputs
-- What a value that does the work itself promises.
pub mod Posting
