-- what texts are as conditions
pub mod Conditions
-- what a line that is taken keeps of a draft
pub mod Keeping
-- lines in turn
pub mod Going
-- what actions ask for stays, line after line
pub mod Staying
-- lines answer one thing
pub mod One
-- what is kept of a program, and lists by their items
pub mod Rest
