-- The sum of all cells, cell by cell.
pub mod SumLemmas
-- Worked sums.
mod Examples
-- What a run that stopped or ended hands on.
pub mod SerialLemmas
-- A replay, by what the executive did.
pub mod ReplayLemmas
-- As many sessions join in the journal that is written as in the lists that are given.
pub mod Joins
