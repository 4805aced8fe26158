-- Names and their places.
pub mod Found
-- The text that JSON's writer gives for the cells.
pub mod Entries
-- What a store leaves in range.
pub mod Stores
-- Bytes of numbers, and the numbers that bytes tell.
pub mod Packs
-- What is held as bytes, at first and after a store.
pub mod Held
