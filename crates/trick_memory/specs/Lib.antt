-- The bytes of a memory.
pub mod Packed
-- What a memory holds, and how its cells are found.
pub mod Stored
-- The listing of the cells.
pub mod Listing
-- Laws of names and of bytes.
pub mod Laws
-- Worked bytes.
pub mod Worked
-- Two cells, for tests.
pub mod Samples
