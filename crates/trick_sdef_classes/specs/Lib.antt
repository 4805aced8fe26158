-- the grammar of enums, structs and members
pub mod Members
-- the grammar of classes, and of a whole file
pub mod Files
-- the trees that values of the readers hold
pub mod Trees
-- the grammar of a file with the limits of the profile
pub mod Profile
