-- reading the parts one after the other
pub mod Reading
-- numbers that are read are in the ranges of their cells
pub mod Within
