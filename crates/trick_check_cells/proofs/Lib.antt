pub mod Lists
pub mod Counted
mod Waits
mod Unfold
pub mod Laid
mod Declared
