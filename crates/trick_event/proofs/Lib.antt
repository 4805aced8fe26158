-- one more item of a list that is gone through
pub mod Steps
-- the reads that are left, place after place
pub mod Left
-- the next tic at which something is due
pub mod NextDue
-- places of conditions
pub mod Places
-- the next tic at which one of the first events is due
pub mod NextEvent
-- deeds about the names of a plan
pub mod Deeds
