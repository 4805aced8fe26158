-- rows: what a line of a journal says
pub mod Rows
-- fronts of journals, and which row may follow
pub mod Fronts
-- codes of the entries' lines
pub mod Codes
-- what a line says, as it is read in code
pub mod Told
-- which texts are refused, and why
pub mod Refusals
-- what the reader keeps of the rows before
pub mod Rules
-- laws of journals
pub mod Laws
-- Texts that are refused as journals, and texts that are journals.
pub mod Facts
