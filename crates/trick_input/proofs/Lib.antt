-- what a form's pieces take, one token at a time
pub mod Steps
-- the outcome over a table
pub mod Table
-- the first line of the tokens
pub mod Cuts
