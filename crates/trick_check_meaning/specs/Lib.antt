-- What the parts of a body mean, by names.
pub mod Meaning
-- What a method does to the memory of an object.
pub mod Methods
-- Worked bodies, and what they do.
pub mod Worked
