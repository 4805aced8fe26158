-- What the source of entries did, call after call.
pub mod Calls
-- The roll of sessions.
pub mod Rolls
-- What a look at the clients came to.
pub mod Looks
-- Laws of calls.
pub mod CallLaws
-- What the source of entries did whose caller asks the door.
pub mod Here
