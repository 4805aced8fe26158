-- what a grammar refuses of symbols alone, and where
pub mod Refusals
-- worked bodies and conditions with their trees
pub mod ReadBodies
-- worked methods that are refused
pub mod RefusedBodies
-- worked simulation definitions with their trees
pub mod ReadFiles
-- worked simulation definitions that are refused
pub mod RefusedFiles
-- worked trees that pass the tests, and such that fail
pub mod Worked
