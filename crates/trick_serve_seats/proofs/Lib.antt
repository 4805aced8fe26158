-- lists of which each item fits the one at its place
pub mod Pairs
-- what the caller told, with one thing more
pub mod Departing
-- what the caller is told, with one call more of the door
pub mod Telling
-- how far an acceptor is after one call more of its door
pub mod Calls
-- what the threads of a client hand back, by what they promise
pub mod Seating
-- how the threads of all sessions are taken in, the last session first
pub mod TakingIn
