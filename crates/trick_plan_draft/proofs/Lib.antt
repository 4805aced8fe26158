-- lists of which one item is changed, and places in lists
pub mod Lists
-- lines that are not refused
pub mod Passed
-- names that are known, and their places
pub mod Known
-- a list of deeds at its place by number
pub mod Inserted
-- a name is taken in a draft where it is taken in the program
pub mod Taken
-- a declaration in the program and in the draft
pub mod Declaring
-- the cells of a program, as a draft knows them
pub mod Mirrored
-- a deed about some names is about more names
pub mod Grows
-- what actions ask for, one after another
pub mod Asked
-- what an action asks for stays the same among more names
pub mod Stays
-- lists of deeds by rising number
pub mod Rising
-- groups and events that are added, each once
pub mod Added
-- what lines keep
pub mod Keeping
-- what lines of groups keep
pub mod KeepingGroups
-- what lines of events keep
pub mod KeepingEvents
-- what declarations keep
pub mod KeepingDeclared
