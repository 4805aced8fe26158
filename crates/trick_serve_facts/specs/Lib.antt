-- The turns of a run, as its source of entries served them.
pub mod Serves
-- The entries of one session: its join, its lines and its leave, and why it left.
pub mod Life
-- The messages to one session: which of them were put into its outbox.
pub mod Messages
-- Where a session hangs up.
pub mod HangUps
-- Of which turn the messages are that were left out.
pub mod LastTurns
-- What the session of one client came to.
pub mod Clients
-- Which sessions join in a run.
pub mod Joins
-- What a run with clients came to.
pub mod IsServed
-- What the links of a client tell, by its arrival and its end.
pub mod Tales
-- What a session is sent, turn by turn.
pub mod Texts
-- What a client was sent, also in a run that stopped.
pub mod Sent
-- How a run ends that waits in Freeze.
pub mod Waits
-- Why a session left, by its entries, and want of memory that its writer told.
pub mod Wants
-- How many sessions left since a thread was refused to their clients.
pub mod NoThreads
