-- the grammar of jobs and their times
pub mod Jobs
-- the trees that values of the readers hold
pub mod Trees
