-- What lies behind the turn: a board, and whether the hall was shut.
pub mod HallView
-- What a history leaves, and which histories there are.
pub mod Histories
-- When what lies behind the turn is in the state that a history leaves.
pub mod Standing
-- What the chief's own entries say of the tic that is open.
pub mod Openings
-- What a call adds to the history.
pub mod Telling
-- What takes, commits and closes answer.
pub mod Answers
-- The same of takes and commits, by the board before and after.
pub mod Kept
