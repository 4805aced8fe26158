-- A program and the lines of an input have one answer.
pub mod One
-- In a plan a name stands for what it stood for at its line.
pub mod Names
-- A plan means what the lines have said.
pub mod Meaning
