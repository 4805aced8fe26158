-- Two orders of the same items by rising keys are one.
pub mod Order
-- The keys of jobs.
pub mod Jobs
-- The jobs of a class, put in order.
pub mod Queued
-- What a plan keeps of its threads.
pub mod Facts
-- Facts of each item of a list.
pub mod Lists
-- The ranges of what lines say of the run and of its threads.
pub mod Ranges
-- Lines one after another: what they say of each thread.
pub mod Gathering
