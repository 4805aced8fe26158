pub mod FoundLemmas
pub mod OutcomeLemmas
pub mod SaysLemmas
pub mod StandsLemmas
-- What a run that stopped leaves of its files.
pub mod StoppedLemmas
pub mod CompleteLemmas
pub mod PrintLemmas
pub mod JoinLemmas
pub mod ActedLemmas
pub mod ReplayLemmas
pub mod GoneLemmas
pub mod GeneratedLemmas
pub mod TopLemmas
pub mod WordLemmas
-- What a row says where the call has the command `run`.
pub mod TellsLemmas
mod Examples
