-- What a board and benches are on the way through a tic.
pub mod Steps
-- What a value that runs tics through a board promises.
pub mod Single
-- Whether a list of steps is a schedule, and what it comes to.
pub mod Playing
