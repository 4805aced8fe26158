-- What a thread beside the tics is handed, and what it comes to.
pub mod Work
-- Whether the round of a thread was ready when it was asked for.
pub mod Polls
-- What publishing comes to, in the words of the rules.
pub mod Laws
