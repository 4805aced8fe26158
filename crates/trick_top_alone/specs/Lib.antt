-- How a command ends: statuses and printed lines.
pub mod Verdict
-- What is done with a simulation whose plan is accepted.
pub mod Aims
-- Which words ask for which command.
pub mod Words
-- The two texts of a generated simulation, as files.
pub mod Generated
-- The texts with which something is done.
pub mod Sources
-- The state from which a run starts.
pub mod First
-- Which run of a plan it is: one without clients, or that under a journal.
pub mod Runs
-- What a command does with an accepted plan.
pub mod Acts
-- Files that were read one after another, and found.
pub mod Found
-- How a command may go on a shelf.
pub mod Outcome
-- How its verdict is printed.
pub mod Printed
-- What each status says.
pub mod Status
-- What the calls say of the status.
pub mod Called
-- One row of the table of statuses.
pub mod Answered
