-- The turns of a run, as the code does them.
pub mod GoLemmas
-- A run, as the code does it.
pub mod WholeLemmas
-- A turn without entries in which nothing is done but that time passes.
pub mod IdleTurns
-- A run without entries publishes every round in flight, where its posts are always ready.
pub mod Own
-- What a run did whose source gave nothing and whose posts were always ready.
pub mod OwnRuns
-- Turns in Freeze that are given no entry, as the code passes them.
pub mod GapLemmas
