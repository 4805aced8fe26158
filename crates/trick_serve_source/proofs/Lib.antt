-- What is told of the sessions that left.
pub mod Leaving
-- What a look at the clients came to.
pub mod Looking
-- Sessions that are not to leave as long as nothing comes of them.
pub mod Calm
-- Answers that are no gap.
pub mod Gaps
