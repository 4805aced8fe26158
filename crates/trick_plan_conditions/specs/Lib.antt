-- The places of a condition, by their full names.
pub mod Places
-- What a condition says, and why it is refused.
pub mod Conditions
-- What names of code stand for.
pub mod Held
-- Laws of conditions.
pub mod Laws
