mod AccessExamples
pub mod Alike
pub mod Blocks
mod Examples
pub mod Frame
pub mod Inside
pub mod Lists
pub mod Overwrites
pub mod Places
pub mod Plain
pub mod Stores
pub mod SyntaxLists
pub mod Tests
pub mod TreeLists
mod ValidExamples
pub mod Variables
pub mod WrapLaw
pub mod Wraps
