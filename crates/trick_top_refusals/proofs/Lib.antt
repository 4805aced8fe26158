-- a line grows by one field at a time
pub mod Fields
