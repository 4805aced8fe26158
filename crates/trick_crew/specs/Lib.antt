-- Which plans need clerks.
pub mod Needs
-- What the clerks of a crew were handed.
pub mod InHand
-- How the clerks of a crew were asked.
pub mod Asking
-- Which clerks a crew has.
pub mod Clerks
-- How the clerks of a crew end.
pub mod Ends
