-- What the chief's own entries say of the history.
pub mod Own
-- What a turn's end adds to the history.
pub mod Turns
-- The passes of a lock without the first.
pub mod Passes
