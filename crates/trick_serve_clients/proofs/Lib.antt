-- Sessions that are ended, one after another.
pub mod Endings
-- Clients that come as the run ends.
pub mod Lateness
-- What was told of the clients, and taken.
pub mod Telling
-- What became of the clients of a run.
pub mod Tending
-- What is known once all threads of the clients are taken in.
pub mod Closings
-- How the clients of a run are opened.
pub mod Openings
