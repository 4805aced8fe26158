-- A failure comes only where a count of faults rose.
pub mod Causes
-- The calls of a shelf, each with its answer, and what they leave.
pub mod Calls
-- Steps that are taken on a shelf, one after another.
pub mod Does
-- The writes among calls.
pub mod Writes
-- The pieces that a sink was given, each with its answer, and what they leave.
pub mod Pieces
-- A text that is put to a sink, piece after piece.
pub mod Puts
-- What is known of work that was started.
pub mod Works
-- What a client's two links give and take.
pub mod Links
-- The calls of a door, each with its answer.
pub mod Visits
-- Calls of a door, one after another.
pub mod VisitLaws
-- Which calls of a form in memory are to fail.
pub mod FaultPlan
-- What the forms in memory stand for.
pub mod Kept
-- What the forms in memory of links and doors answer and keep.
pub mod Scripts
