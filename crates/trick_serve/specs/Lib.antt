-- What a served run works with.
pub mod Serving
-- A run by a source of entries that tells no journal.
pub mod Ran
-- How a served run ended, once its clients are closed.
pub mod Ending
-- What a served run comes to.
pub mod Served
