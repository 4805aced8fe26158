-- What the round of one thread adds to a choice.
pub mod Adds
-- A turn after its entries were heard.
pub mod Pass
