-- what lines keep of a session
pub mod Kept
