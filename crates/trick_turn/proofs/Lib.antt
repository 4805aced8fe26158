-- lists read by `get_elem?`, and prefixes
pub mod Lists
-- the rule as facts of each view, which a step keeps one by one
pub mod Facts
-- each kind of step keeps the rule
pub mod Keeping
-- passes that are dealt one by one
pub mod Deals
