-- the names of a plan are words of lines
pub mod Plain
-- a fault names one job
pub mod JobTexts
-- the lines of the checkpoints of a plan are sound
pub mod IsSound
-- the lines of a checkpoint spell its text
pub mod Text
-- faults that are counted
pub mod Counting
