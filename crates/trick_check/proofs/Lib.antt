-- Parts of classes by their numbers.
pub mod Lists
-- What is in a list whose numbers are all below one.
pub mod Below
-- What methods call is there.
pub mod Calls
-- Classes that are made keep where the variables lie.
pub mod Walked
-- Counts of steps.
pub mod Long
-- The jobs that a tree names.
pub mod Jobs
-- Each job calls a method of its class.
pub mod Methods
-- The object and the method of each job are there, and of one class.
pub mod Stands
-- Lists of which no two are alike, and cells under names that differ.
pub mod Unlike
-- No two cells have one full name.
pub mod Cells
-- The names that a file declares.
pub mod Declared
-- No two jobs have one name and instance.
pub mod Instances
-- A job has no more instances than there are jobs.
pub mod FewInstances
-- The names that a file declares pass what each name of its tree passes.
pub mod Tables
-- Full names of cells are plain.
pub mod PlainCells
-- The names of what a file names.
pub mod Names
-- The parts of a file are proper.
pub mod Proper
-- Jobs and objects of a file.
pub mod Placed
-- Refusals of each kind are refusals of the file.
pub mod Refusing
-- The parts of a file are such as a program asks.
pub mod Joining
-- Which classes have objects.
pub mod Used
-- The parts of each file are whole.
pub mod Whole
-- What a program asks of the blocks of its parts.
pub mod Joined
-- A file that names a program has no refusal.
pub mod Excluded
-- A file has one refusal.
pub mod OneRefusal
