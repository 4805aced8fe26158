-- the fields of a fault, as they are read in code
pub mod Fields
-- laws of checkpoints
pub mod Laws
