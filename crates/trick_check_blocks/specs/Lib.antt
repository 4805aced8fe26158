-- What the first name of a path stands for, and where the rest of it leads.
pub mod Places
-- Places that lie where they may.
pub mod Room
-- What expressions become.
pub mod Terms
-- What statements become, and the blocks in them.
pub mod Codes
-- Blocks with their classes and frames.
pub mod Bodies
-- What a value of the code holds.
pub mod Held
-- The methods of a class.
pub mod Methods
-- What a program keeps of its blocks.
pub mod Kept
-- Worked bodies.
pub mod Worked
