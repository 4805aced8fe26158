-- Where cycles end.
pub mod Times
-- The threads beside the tics have numbers of their own.
pub mod Threads
-- What the step of a thread makes of a state, and threads one after another.
pub mod Steps
-- What is in flight after a start, after a publication, and one tic later.
pub mod Flights
-- Stations at their places, and what their threads are given.
pub mod Seats
-- Threads that publish and take one after another.
pub mod Loops
-- Rounds that are published and that start.
pub mod RoundLemmas
-- What a state holds is started, one thread after another.
pub mod HeldLemmas
-- The publications of all rounds in flight, one thread after another.
pub mod PublicationLemmas
