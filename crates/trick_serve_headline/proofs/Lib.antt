-- What a turn notes, by its entries.
pub mod Entries
-- A run under what its turns noted.
pub mod Same
-- A client of that run.
pub mod Clients
-- A run that goes on from a turn of another run.
pub mod Remainders
-- All clients of a run, under its journal.
pub mod All
-- The headline of a run.
pub mod Headline
-- What clients of a run that stopped were sent.
pub mod Sent
-- What a door was asked, and what it gave.
pub mod Doors
-- The clients of a run that were tended, and what they were sent.
pub mod Tended
-- The entries of a session tell its lines.
pub mod Lives
-- Clients to which a thread was refused.
pub mod Refused
-- The clients of a whole run were served.
pub mod Served
-- A run to which no client came.
pub mod Alone
-- Doors, clients and lists, worked.
mod Examples
