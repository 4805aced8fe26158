-- Which words ask for clients at a port.
pub mod Ports
-- The state from which a plan is run, as it was found.
pub mod Firsts
-- How `run` goes: a case for each row of the table of statuses.
pub mod Rows
-- What the top call answers: as the call that waits for nobody, or by a row of `run`.
pub mod Answers
-- The headline, where a run came to its end.
pub mod Headline
-- What stands of a run, whatever the status is.
pub mod Stands
