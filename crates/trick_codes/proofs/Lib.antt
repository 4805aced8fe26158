-- small facts
pub mod Base
-- numbers in decimal
pub mod Numbers
-- bytes, integers, free bytes and words
pub mod Fields
-- reading by a code is exact
pub mod Codes
-- reading lines is exact
pub mod Lines
-- one line at most is due after a front
pub mod Once
-- reading on, as loops in code do
pub mod Loops
-- the answer for a whole text is exact
pub mod Loading
-- reading codes and lines one after the other, as a loop does, and writing them
pub mod Each
-- rows of numbers
pub mod Rows
-- the usual lines are sound
pub mod IsSound
-- words that are written out are prefix-free by a test
pub mod Words
-- worked values
pub mod Examples
