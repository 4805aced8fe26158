-- The tokens of a text of actions, with their bytes.
pub mod Lexemes
-- What lexemes, values and pieces of the code are.
pub mod Seen
-- Members and indexes of a full name.
pub mod Paths
-- The rows of the tables of actions and of clients' lines, by their names in the code.
pub mod Rows
-- What `actions` answers.
pub mod Answers
-- The parts of words between `;`.
pub mod Parts
-- What a feed of a client's bytes stands for.
pub mod Fed
-- Laws of feeds.
pub mod Laws
