-- How far the time of a simulation goes.
pub mod Time
-- Numbers that stand still.
pub mod Capped
-- Files by name, and what calls write to them.
pub mod Files
-- What stands where calls that write were done only in part.
pub mod Fronts
-- What calls that write make of one file.
pub mod Content
