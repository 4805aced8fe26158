-- What belongs to a program: memories and jobs.
pub mod Belongs
-- What a tic's jobs are handed.
pub mod Given
