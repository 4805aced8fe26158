-- The worked bodies do so.
mod Worked
