-- Names, and what they stand for.
pub mod Names
-- What a file declares.
pub mod Tables
-- What the places of a body reach.
pub mod Places
-- Mistakes in names, and which of them decides.
pub mod Mistakes
-- The mistakes of a body.
pub mod BodyMistakes
-- The mistakes of a file.
pub mod FileMistakes
-- Which methods call which.
pub mod Calls
-- Worked files.
pub mod Worked
-- What lies where.
pub mod Laid
-- What the tables of a file keep.
pub mod Kept
