-- entries one by one
pub mod Entries
-- sessions one by one
pub mod Sessions
-- the codes of lines are sound
pub mod IsSound
-- a line is spelled as it is printed
pub mod Texts
-- the first line of a text, and what stands after it
pub mod Behind
-- what a line says
pub mod Lines
-- what the reader keeps
pub mod Keeping
-- from rows to the answer for a text
pub mod Answering
-- no journal is a proper prefix of another
pub mod Prefixes
-- the line of a row is one line
pub mod OneLine
-- a rule that holds of a journal's entries holds of their front
pub mod Front
-- what stands after a front of a journal
pub mod Next
-- a refused text is no journal
pub mod Apart
