-- places in lists
pub mod Finding
-- a name that is an object's, a dot and a method's
pub mod Joined
