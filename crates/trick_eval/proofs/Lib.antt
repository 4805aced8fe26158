pub mod Overwrite
pub mod Ranges
pub mod ReadRanges
pub mod SparseLists
pub mod Steps
