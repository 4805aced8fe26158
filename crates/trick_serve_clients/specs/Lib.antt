-- The ends of a client's queues.
pub mod Ends
-- How the clients of a run are opened.
pub mod Opened
-- Clients that come as the run ends.
pub mod Late
-- How sessions are ended, one after another.
pub mod Ending
-- What is known once the source of entries and its acceptor are over.
pub mod Over
-- What became of the clients of a run, from first to last.
pub mod Tended
