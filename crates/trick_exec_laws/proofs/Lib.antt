-- A round that has waited long enough is published.
pub mod Waits
-- Fronts of writes, and writes of other names.
pub mod Fronts
-- What turns write of names that are no log and no checkpoint.
pub mod Others
-- What the first entries that a turn noted would note.
pub mod Notes
-- Turns do the same under what they note.
pub mod Same
-- Frozen frames without lines do nothing, and a run under lists goes on after their turns.
pub mod Lasting
-- Turns that were done in part.
pub mod Cuts
-- What the calls of a turn leave that stopped.
pub mod Stops
-- What the calls of a run leave that stopped.
pub mod Leaves
-- Cuts of two turns.
pub mod Examples
-- A run makes its files once at most.
pub mod Once
-- As many rounds are left unpublished as polls found not ready.
pub mod Counts
-- `late` rises for each round that is left unpublished.
pub mod Late
-- In a run of a plan without asynchronous threads nothing is asked for.
pub mod Rounds
