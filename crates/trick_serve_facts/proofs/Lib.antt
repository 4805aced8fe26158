-- What holds of a session all along a run.
pub mod Keeping
-- The entries of one session, all along a run.
pub mod Lives
-- The messages to one session, all along a run.
pub mod Messages
-- Where a session hangs up.
pub mod HangUps
-- What holds of a session at the end of a run, and what was heard of it.
pub mod Clients
-- Which sessions join in a run.
pub mod Joins
-- Of which turn the messages are that were left out.
pub mod LastTurns
-- What the session of one client came to.
pub mod Outcomes
-- What a run with clients came to.
pub mod IsServed
-- The turns of a run as its source was handed them, and the ends of its sessions.
pub mod Tales
-- What a session is sent, turn by turn.
pub mod Texts
-- What a client was sent, also in a run that stopped.
pub mod Sent
-- How a run ends that waits in Freeze.
pub mod Waits
-- Why a session left, by its entries, and want of memory that its writer told.
pub mod Wants
-- How many sessions left since a thread was refused to their clients.
pub mod NoThreads
-- Calls of which one is an answer.
pub mod Answering
-- Who joins in the first turn.
pub mod Firsts
