-- The cells of a memory, one after the other.
pub mod CellLists
