-- a refusal of a step is one of both texts
mod Refusals
-- a text that is cut is not refused as a whole, but for a want of memory
mod Uncut
-- an input has one list of lines, or one refusal
mod OneReading
-- an S_define has one tree, or one refusal
mod OneTree
-- programs with the same parts have the same answers and the same plans
mod SameParts
-- a plan that is accepted is not refused
mod Unrefused
-- two texts say one thing
mod OneMeaning
