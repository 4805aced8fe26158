-- Whether it was heard that a link has no byte left.
pub mod Ended
-- One session as the source of entries has it.
pub mod Sides
-- The life of a session: what happens to it, and which entries that gives.
pub mod Life
-- Which entries may come, as a list of them grows.
pub mod Rules
-- The list of a turn as it is gathered.
pub mod Gathering
-- Which client a seat is of.
pub mod Clients
-- A message that is handed to a session.
pub mod Messages
