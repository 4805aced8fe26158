-- entries by their turns
pub mod TurnEntries
-- the lists of turns
pub mod Lists
-- how many sessions join in them
pub mod Joins
-- sessions one by one
pub mod Joining
-- a list may come after those before it
pub mod Coming
-- from one turn of a replay to the next
pub mod Replaying
-- turns in Freeze that are given no entry
pub mod Gaps
