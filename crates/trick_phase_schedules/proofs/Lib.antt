-- a memory that is overwritten
pub mod Overwritten
-- order by keys
pub mod Keys
-- what is known of the jobs of a tic
pub mod Right
-- what one job leaves to another
pub mod Passing
-- one commit more
pub mod Insert
-- what a step leaves
pub mod Steps
-- what steps tell of stages
pub mod Told
-- after the beginning of a schedule
pub mod History
-- how schedules go on
pub mod Extend
-- boards and copies
pub mod Moves
-- the jobs of a tic of an accepted plan
pub mod Due
-- all schedules of three jobs
pub mod Examples
-- one thread alone
pub mod Alone
