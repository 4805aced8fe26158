-- one more entry, and what the chief's own entries say of the board
pub mod EntryLists
