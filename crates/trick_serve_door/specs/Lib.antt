-- How far a caller is that asks the door itself.
pub mod Asking
-- How a door gets the links of its clients back.
pub mod Returns
-- What an acceptor in a thread comes to, and where it is.
pub mod Running
