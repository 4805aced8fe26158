-- A run without clients.
pub mod Alone
-- How the turns of a run, and a run, end.
pub mod Ended
-- A run whose source gives nothing and whose posts are always ready.
pub mod Own
