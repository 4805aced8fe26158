-- What a clerk leaves at the end of its shift, and when nothing waits for it.
pub mod Serving
-- The clerks of a yard: each runs in a thread of its own, or stayed.
pub mod Staffs
-- What the caller does for clerks that stayed.
pub mod Tending
