-- Lists and their items.
pub mod Lists
-- Names that stay known.
pub mod Known
-- Methods in the bodies of a file.
pub mod Bodies
-- The parts of a class.
pub mod Parts
-- The blocks and slots of methods.
pub mod Made
-- Methods, one after another.
pub mod Along
-- Cells by their full names.
pub mod Cells
-- Objects by their names.
pub mod Objects
-- Where the methods of a program come from.
pub mod Classes
-- What jobs do.
pub mod Effects
-- Arrays of a text.
pub mod Lengths
-- A small file.
pub mod Example
