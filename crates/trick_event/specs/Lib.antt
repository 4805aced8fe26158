-- A state in a turn, and the moment of an action.
pub mod Asking
-- Which deeds can be done to a memory.
pub mod Deeds
-- What a condition sees of a memory.
pub mod Condition
-- What one read and one event do at a tic.
pub mod Event
-- What is due when.
pub mod Due
