-- Turns with the same lines and publications do the same.
pub mod Lines
-- Which sessions are sent nothing.
pub mod Silence
