-- each call of an end keeps the rule of the queue
pub mod Relays
-- lines that are lines, in a feed
pub mod Feeding
-- what a reader puts, step after step
pub mod Reading
-- what a writer writes, message after message
pub mod Writing
-- what is known once both ends of a queue are in one hand
pub mod Joining
