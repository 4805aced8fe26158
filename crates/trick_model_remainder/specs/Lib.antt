-- What a run that goes on from a state of another run writes.
pub mod Remainder
-- How long a run under a journal lasts.
pub mod Lasting
