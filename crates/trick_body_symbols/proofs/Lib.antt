-- the values of a grammar, without the places of their tokens
pub mod Yields
-- what is known of names and times at the front of a text
pub mod Words
-- what is known of the tokens of a text, by their symbols
pub mod Tokens
-- loops that count down what may still come
pub mod Countdown
