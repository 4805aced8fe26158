-- tests over lists, and lists made tic by tic
pub mod Lists
-- the jobs of a thread beside the tics
pub mod Jobs
-- what is written of a memory, and what a fold leaves of it
pub mod Memories
-- what a worker publishes of a tray
pub mod Finish
-- from one tic at which a job is due to the next
pub mod Tics
-- cells that are written one after another, and flags that are set
pub mod Writes
-- jobs that run one part after another
pub mod Runs
-- what a tray is handed and holds
pub mod Trays
-- faults that get another tic
pub mod Dated
-- what is published of a parcel
pub mod Publishing
-- trays of which one is changed
pub mod OneTrays
