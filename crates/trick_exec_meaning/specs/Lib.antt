-- Who a run works with.
pub mod Hosts
-- What the turns of a run were given and told.
pub mod Answers
-- Which rounds of asynchronous threads are published.
pub mod Rounds
-- Turns that are done while an entry may still be owed.
pub mod Goes
-- Turns that follow a journal, and how they miss its end.
pub mod Follows
-- What a turn did.
pub mod Turned
-- Where a run stopped.
pub mod Stops
-- Which publications were chosen in turns that stopped.
pub mod Chosen
-- What a run did.
pub mod Ran
-- What the turns of a run came to.
pub mod Over
-- Laws of runs that follow a journal.
pub mod Laws
-- The parts of a turn: its lines, and its publications.
pub mod Parts
