-- the trees that values of the readers hold
pub mod Trees
