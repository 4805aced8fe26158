-- calls of a board and its benches keep them right
pub mod Trials
