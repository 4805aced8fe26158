-- The classes of tokens, by their kinds and their bytes.
pub mod Classes
-- The tokens of an input with what the forms of lines and their values see of them.
pub mod Lexemes
-- What the lexemes of the code are.
pub mod Seen
-- The table of forms, and how a line is read by it.
pub mod Forms
-- What an exact answer on a line is.
pub mod Exact
-- What a line says, by the form that it has.
pub mod Says
-- The lines of an input, and their refusals in order.
pub mod Lines
-- What `read_input` answers.
pub mod Answers
-- Worked lines.
pub mod Worked
