-- The two texts of a generated simulation.
pub mod Texts
