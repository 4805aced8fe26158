-- the grammar of bodies has the texts of the productions
mod BodyProductions
-- the grammar of files has the texts of the productions
mod FileProductions
-- the grammars of methods and conditions with larger limits
mod BodyLimits
-- reading with larger limits, for one grammar after the other
mod Growing
-- the grammar of files with larger limits
mod FileLimits
-- a grammar has no conflict exactly where it passes the test
pub mod Conflicts
-- the worked conflicts
mod Named
