-- what a seat knows, and how each kind of step changes it
pub mod Views
-- the rule that the table of a lock keeps
pub mod TurnRule
-- what a step on the word tells the seat that made it
pub mod Steps
-- what clauses say of a pass
pub mod Passes
-- what clauses say of a turn and of a claim
pub mod Turns
