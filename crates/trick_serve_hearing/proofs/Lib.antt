-- What happens to a session, one thing after another.
pub mod Living
-- Which client a seat is of, as seats change.
pub mod Seating
-- Places of sessions.
pub mod Placing
-- The rules of entries, as a list grows.
pub mod Keeping
-- A list that is gathered from many sessions.
pub mod Gathering
-- To which sessions no message was left out.
pub mod Quick
