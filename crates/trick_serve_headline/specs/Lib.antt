-- A run under what its turns noted: it is the same to each session.
pub mod Noted
-- A run that goes on from a turn of another run: it writes the remainder of its files.
pub mod Continued
-- What the clients of a run came to, as its door has them.
pub mod Clients
-- A run to which no client came.
pub mod Alone
-- The headline of a run that came to its end.
pub mod Headline
-- What a run that stopped leaves, and what its clients were sent.
pub mod Stopped
-- From what became of the clients of a run to what its door has of them.
pub mod Tended
