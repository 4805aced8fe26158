-- The sessions of a world are those that its source knows.
pub mod Known
-- What a run is lent.
pub mod Lent
-- Worlds, as values of the code hold them.
pub mod Worlds
-- What a turn of the code came to.
pub mod CameTo
