-- the terminal symbols, by the bytes of their tokens
pub mod Symbols
-- the tokens of a text as a grammar sees them
pub mod Lexemes
-- the grammar of places and expressions
pub mod Expressions
-- the grammar of types and statements
pub mod Statements
-- the grammar of methods and conditions
pub mod Methods
-- what the head of a production gives
pub mod Heads
-- what a refusal is told with: its code, its limit and its line
pub mod Told
-- the limits of the profile
pub mod Limits
