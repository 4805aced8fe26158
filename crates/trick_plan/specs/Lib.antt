-- What a program and the lines of an input join to.
pub mod Plan
-- Laws of plans.
pub mod Laws
-- What a plan means, by what the lines have said.
pub mod Meaning
