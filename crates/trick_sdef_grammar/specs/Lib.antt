-- the language of bodies production by production
pub mod BodyProductions
-- the language of simulation definitions production by production
pub mod FileProductions
-- which refusals of simulation definitions come of a limit
pub mod Larger
-- the promises on limits
pub mod Promises
-- the grammars of the readers
pub mod Readers
-- worked conflicts, one of each kind
pub mod Named
