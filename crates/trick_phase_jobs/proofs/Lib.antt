-- which jobs can be due
pub mod DueJobs
