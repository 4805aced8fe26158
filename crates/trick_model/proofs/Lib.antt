-- What examples are made of.
mod Samples
-- A job that counts: whole runs, and runs that stop or freeze on the way.
mod Counting
-- Jobs of one tic.
mod Jobs
-- Threads that work beside the tics.
mod Beside
-- Rows of groups, checkpoints, and a run that goes on from one.
mod Recording
-- Jobs of all classes.
mod Classes
-- Clients: sessions, their texts, and journals.
mod Clients
-- What actions and clients' lines say.
mod Lines
-- Plans that are accepted, and plans that are not.
mod Acceptance
-- At an idle tic each part of a tic does nothing.
pub mod Idle
-- Sessions change nothing but messages.
pub mod Sessions
-- Runs, cut in two, and under a journal.
pub mod Runs
-- Lists that are as long as those that they are made of.
pub mod Lengths
-- A turn keeps the lengths of all lists of a state.
pub mod Sizes
-- No two jobs of a program have one key.
pub mod Keys
-- Lists whose entries keep what their places ask for.
pub mod Ranges
-- What an action asks for among names is about them.
pub mod Found
-- Each part of a turn keeps what a valid state keeps.
pub mod States
-- A turn, and the start of a run, keep what a valid state keeps.
pub mod Turns
-- A run from the state after some turns goes on as the original.
pub mod Continue
-- A program, and a plan, may cross threads.
pub mod ProgramCrossings
pub mod Crossings
-- The names of a plan, and its deeds, which are about them.
pub mod PlanNames
-- The jobs of a plan stand in queues by class, and are jobs of its program.
pub mod PlanJobs
-- The object and the method of a job are there, and so is what is looked up by a number.
pub mod NamesThere
