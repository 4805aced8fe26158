-- the classes of tokens, by their bytes
pub mod Words
-- trees of statements and sums
pub mod Trees
-- the grammar of statements and sums
pub mod Statements
-- what a simple statement does, as the reader has it
pub mod Deeds
-- the line that a refusal is told with
pub mod Told
-- what reading a whole text answers
pub mod Answers
