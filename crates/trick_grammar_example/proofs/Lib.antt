-- the next token decides each step of the grammar
pub mod Predictive
-- the trees of chains are what the grammar makes
pub mod Chains
