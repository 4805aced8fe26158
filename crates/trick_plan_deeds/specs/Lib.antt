-- Numbers that a type can hold.
pub mod Deeds
