-- A plan: what a run is told before it starts.
pub mod Plan
-- Tics, frames, and when a job is due.
pub mod Time
-- In which order jobs run, and which are due at a tic.
pub mod Order
-- Which cells jobs may read and write, the scope of a thread, and the asynchronous reach.
pub mod Access
-- Which plans are accepted.
pub mod Acceptance
-- The faults of a run.
pub mod FaultList
-- A state: all that a run goes on from.
pub mod State
-- Running jobs.
pub mod Running
-- What names stand for, and what an action asks for.
pub mod Names
-- Deeds, reads and events.
pub mod Events
-- Work beside the tics.
pub mod Beside
-- The names of cells and jobs by their numbers.
pub mod NameAt
-- Rows of data record groups.
pub mod Records
-- One tic, and the tics of a frame.
pub mod Tic
-- The text of a checkpoint, and the list of faults.
pub mod Checkpoint
-- Journals: their rules and texts, and their entries turn by turn.
pub mod Journal
-- Sessions of clients.
pub mod Session
-- One turn.
pub mod Turn
-- The run, and what a journal gives it.
pub mod Run
-- The files of a run, and session texts.
pub mod Files
-- The words of a line of a client or of an action.
pub mod Words
-- What a form of an action or a client's line is made of.
pub mod Forms
-- What actions and clients' lines say.
pub mod Commands
-- The condition of an event.
pub mod Condition
-- What a valid state of a plan keeps.
pub mod ValidState
-- Which texts are journals.
pub mod JournalText
-- Laws of a run.
pub mod Laws
-- What a valid plan keeps.
pub mod Valid
-- The plan that a value of the code holds.
pub mod PlanOf
