-- cells that are marked
pub mod Marks
-- the parts in which a checkpoint is printed
pub mod Parts
