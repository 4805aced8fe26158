-- where the session of a number stands
pub mod PlaceLemmas
-- what clients' lines ask for
pub mod BetweenLemmas
-- what hearing an entry keeps of the sessions
pub mod Kept
-- samples, one after another
pub mod SampleLemmas
-- entries, and the replies to them
pub mod ReplyLemmas
