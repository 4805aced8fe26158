-- Lists of which each item fits the one at its place.
pub mod Pairs
-- What is known of a client's threads, and of what they hand back.
pub mod Seats
-- What the caller tells of the sessions that left.
pub mod Departures
-- What the caller is told of the clients that a door gave.
pub mod Told
-- How far an acceptor is.
pub mod Taking
-- What an acceptor has done, from its start to the end of the run.
pub mod Accepted
