-- What a `csv` writer holds between lines and while a line is written.
pub mod Held
-- A group of a plan, and the calls that add its row to its log.
pub mod Added
