-- Journals that differ in publications alone, and what their runs have in common.
pub mod Publications
