-- The methods of a program, and their numbers.
pub mod Methods
-- The jobs of a program.
pub mod Jobs
-- What is made of classes, one after another.
pub mod Classes
-- Cells by their full names, and the texts of paths.
pub mod Named
