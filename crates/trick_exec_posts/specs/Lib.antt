-- The threads beside the tics, with what each of them is given.
pub mod Stations
-- What is in flight of the threads beside the tics.
pub mod Flight
-- The entries that publish rounds.
pub mod Rounds
