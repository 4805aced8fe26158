-- the words of a text are its tokens
pub mod Words
-- what pieces read, one after the other, and the actions of parts
pub mod Pieces
-- an index in a full name
pub mod Indexes
-- bytes that come in two pieces, and a carriage return at the end of a line
pub mod FedPieces
