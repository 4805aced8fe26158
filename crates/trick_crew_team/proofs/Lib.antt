-- A list that is kept of another is no longer than that.
pub mod Short
-- What the chief's own entries say.
pub mod Openings
-- What a worker is made of may cross threads.
pub mod Parts
-- Workers that are started one after another.
pub mod Starting
-- Facts of all elements of a list, and beginnings of lists.
pub mod Lists
-- The thread of each due job is served.
pub mod Served
-- Hands of one hall, which the chief takes in.
pub mod TakingIn
