-- The tree of a condition as a list.
pub mod Stored
-- An item of a list changed in its place.
pub mod Changed
-- The cells by their full names, and the names that are taken.
pub mod Cells
-- The jobs that lines name.
pub mod Jobs
-- What the lines so far have said.
pub mod Drafts
-- What each line says, given the lines before it.
pub mod Lines
-- The place of a list of actions by its number.
pub mod Places
-- What values of the code are.
pub mod Seen
-- What every line keeps.
pub mod Kept
-- Worked lines.
pub mod Worked
-- Laws of drafts.
pub mod Laws
