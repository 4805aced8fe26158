-- The rule of a queue between two ends.
pub mod Rule
-- The two ends of a queue: what was put, and what was taken.
pub mod Ends
-- Feeds of which each line is one of a client.
pub mod Feeding
-- What a reader puts into its inbox.
pub mod Puts
-- What a reader has read of its link, and put into its inbox.
pub mod HasRead
-- What was taken of a session's inbox, beside the bytes of its link.
pub mod HasHeard
-- What a writer has taken of its outbox, and written to its link.
pub mod HasWritten
