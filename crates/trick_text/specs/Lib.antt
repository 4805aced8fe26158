-- What stands at the front of a text: white space, a comment, a token, or a fault.
pub mod Pieces
-- The number that the bytes of a whole number, or plain digits, stand for.
pub mod Numbers
-- The tokens of a text, and its first fault.
pub mod Tokens
-- The tics of a number of seconds.
pub mod Seconds
-- The number that a token stands for.
pub mod Values
-- A number of seconds in tics, before it is known to be a time.
pub mod Amounts
