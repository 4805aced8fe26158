-- What paths become.
pub mod Following
-- Cells and their full names.
pub mod Cells
-- What expressions become.
pub mod Values
-- Local variables in their slots.
pub mod Rows
-- What statements become.
pub mod Statements
-- The tables of a file, by names and by cells.
pub mod Tabled
