-- The threads of a plan.
pub mod Threads
-- The order of the jobs of a class, by one number for each key.
pub mod Keys
-- Worked threads and queues.
pub mod Worked
-- What an input says of the run and of its threads.
pub mod Settings
