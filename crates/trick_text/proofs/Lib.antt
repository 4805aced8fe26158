-- The search for `*/`.
pub mod Closing
-- Values of digits.
pub mod Digits
-- One piece more.
pub mod Walk
-- A text has no other tokens, and no tokens past its first fault.
pub mod Unique
-- A number of seconds in tics.
pub mod Amounts
-- What is known of a number that stands at the front of a text.
pub mod Fronts
-- What is answered of a number of seconds, by its amount.
pub mod Times
