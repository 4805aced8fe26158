-- Numbers that rise.
pub mod Numbers
-- The sessions of a world stay those that its source knows.
pub mod SessionLemmas
-- A turn's lines stand before its publications.
pub mod LineLemmas
-- Messages are handed over, one after another.
pub mod SendLemmas
-- The rest of a turn.
pub mod RestLemmas
-- What a turn says: its replies, and then its samples.
pub mod SaidLemmas
-- What is chosen, and what hearing keeps of a course.
pub mod ChosenLemmas
-- A turn of the code comes to what it is to come to.
pub mod TurnLemmas
