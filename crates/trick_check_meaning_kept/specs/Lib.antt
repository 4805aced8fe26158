-- Names and the cells and slots that they become.
pub mod Alike
-- The laws.
pub mod Kept
