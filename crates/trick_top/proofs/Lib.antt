-- What words say that ask for a port.
pub mod PortLemmas
-- How texts go whose run does not begin.
pub mod ServeLemmas
-- The row of a run: one that did not begin, or one that did.
pub mod RowLemmas
-- What a run that began says of each status.
pub mod RanLemmas
-- What each clause says, of all words.
pub mod TopLemmas
-- The headline of a run that came to its end.
pub mod HeadlineLemmas
-- What stands of a run.
pub mod StandLemmas
mod Examples
