-- The cells of a file, with their names, in order.
pub mod Cells
-- How many they are.
pub mod Counts
-- What is known once types are declared before they are used.
pub mod Unfolding
-- Where everything lies: the tables of all variables, objects and items.
pub mod Tables
-- What is left while cells are written.
pub mod Waits
