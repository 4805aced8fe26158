-- one entry more, and what a pass knows by its own entries
pub mod Entries
-- the post after a turn
pub mod PostLemmas
-- a post as it is made
pub mod Making
