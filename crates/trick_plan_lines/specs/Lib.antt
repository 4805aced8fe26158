-- The times of lines.
pub mod Times
-- What the texts of lines read as.
pub mod Texts
-- What each line says, given the lines before it.
pub mod Said
-- All lines of an input, one after another.
pub mod Drafted
-- What actions ask for at their lines, and after all lines.
pub mod Deeds
-- Laws of drafts.
pub mod Laws
-- Worked lines.
pub mod Worked
