-- the lines of a panel are sound
pub mod IsSound
-- a panel is printed as it is spelled
pub mod Printing
