-- rows of numbers, as they are printed
pub mod Rows
-- lists side by side end with the shortest of them
pub mod Cut
-- the jobs of a thread, and what is held for it
pub mod Threads
-- the marked cells are the scope of a thread
pub mod Scopes
