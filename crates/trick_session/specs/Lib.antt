-- What a reply of the code says, and when a sample is sent.
pub mod Answers
-- What a session keeps.
pub mod Kept
-- Laws of sessions.
pub mod Laws
