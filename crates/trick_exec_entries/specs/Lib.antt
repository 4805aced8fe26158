-- A turn's entries as they are heard, and messages, as values of the code hold them.
pub mod Hearing
-- What the sessions and the entries of a turn keep together.
pub mod Sessions
-- Where the session of a number stands.
pub mod Places
-- The sample of one session, and the session after it.
pub mod Samples
