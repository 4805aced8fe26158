-- A tic of a plan, its due jobs, and their predecessors.
pub mod Tics
-- Which lists of steps are schedules.
pub mod Schedule
-- What the steps of a schedule make of a memory.
pub mod Play
-- What holds after the beginning of a schedule.
pub mod Progress
-- Laws of schedules.
pub mod Laws
