-- The sum of all cells of a memory.
pub mod Sum
-- A run on one thread, without clients, and what it says at its end.
pub mod Serial
-- A replay: the run of a state under a journal, or the two numbers of a journal that does not fit.
pub mod Replay
-- A law of replays.
pub mod Laws
