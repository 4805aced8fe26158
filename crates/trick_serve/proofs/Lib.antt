-- A run that came to its end may be told as one that stopped for want of memory.
pub mod Stopping
-- What a run says, of a source of entries that is seen as its clients.
pub mod Turning
-- As many sessions join in a served run as have seats.
pub mod Counting
-- What a served run comes to, by what its run says and what became of its clients.
pub mod Results
-- A served run that could not begin.
pub mod Beginning
-- A run was served, also from a spawner on that others had asked before.
pub mod Earlier
