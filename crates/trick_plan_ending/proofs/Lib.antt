-- Items at places, read or taken out one by one.
pub mod Taking
-- What a plan keeps, of its parts.
pub mod Facts
