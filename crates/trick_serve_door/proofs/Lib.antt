-- a caller that asks the door itself
pub mod Stopping
-- What an acceptor takes into its thread, and what comes back, may cross threads.
pub mod Crossings
-- What a start of an acceptor sends, as a set for `search`.
pub mod Parts
