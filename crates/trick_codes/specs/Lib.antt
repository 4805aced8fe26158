-- prefix codes of values as data, and how they are read
pub mod Code
-- texts of lines as data, and how they are read
pub mod Lines
-- what an exact answer of reading is
pub mod Exact
-- the form of a line, and what is wrong with a line
pub mod Forms
-- what loading a text answers
pub mod Loads
-- what a reader in code returns, beside what the codes tell
pub mod Gives
-- the usual lines
pub mod Named
