-- What the rounds of threads add to a choice, and how long they wait.
pub mod ChoiceLemmas
-- What a turn leaves as it is, so that a run is under way after each of its parts.
pub mod CourseLemmas
-- The parts of a turn whose entries were heard make it.
pub mod PassLemmas
-- A turn without entries at whose tics nothing is due.
pub mod IdleLemmas
