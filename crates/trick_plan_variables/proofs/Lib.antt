-- Lists of which no two are alike.
pub mod Apart
-- The names of the cells of a declaration differ, and are new where its name is free.
pub mod Names
-- What holds of places in so many cells holds in more.
pub mod More
-- What a text declares has a name that is spelled, and cells with plain names.
pub mod Declared
-- What a program keeps with the cells of a declaration.
pub mod Kept
-- What a plan keeps with more cells.
pub mod Plans
