-- What an S_define and an input say, each by itself and both together.
pub mod Texts
-- What `ready` answers.
pub mod Answers
-- What the reader of a text answers is one thing.
pub mod Readings
-- What two texts say is one thing.
pub mod Meaning
