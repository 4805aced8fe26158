-- a line grows by one field at a time, and a row begins with a digit
pub mod Lines
-- rows of different lengths differ, and a group is the same at any default
pub mod Same
