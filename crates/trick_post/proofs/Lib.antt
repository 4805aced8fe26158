-- what a turn adds to what a pass knows
pub mod Passes
-- how far the count of late rounds rises
pub mod Lateness
-- the passes that the clerks are dealt
pub mod Clerks
-- what a desk knows of what it started, and what it publishes
pub mod Desks
-- where the work of a thread begins
pub mod Beginnings
