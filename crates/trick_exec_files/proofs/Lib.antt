-- A turn that has entries notes them in one append.
pub mod NoteLemmas
-- The logs of groups, one after the other.
pub mod LogLemmas
