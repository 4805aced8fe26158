-- the pass that an entry names
pub mod Entries
-- what a list of entries leaves, and which lists there are
pub mod Histories
-- what clauses say of a call of the chief or of a hand
pub mod Answers
