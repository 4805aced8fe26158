-- What holds of a board and of the benches beside it.
pub mod Trial
