-- What a store leaves of a number, and the ranges of the types.
pub mod Wrap
-- What an S_define says: the trees of the text.
pub mod SyntaxTree
-- The tree of the text that a value of the code holds.
pub mod Syntax
-- Tests of the parts of an S_define, and whether its tree passes them.
pub mod PartTests
-- Where the loops of bodies end.
pub mod Loops
-- What the reader of an S_define knows of its tree.
pub mod Facts
-- The tree of an S_define.
pub mod SDefineOf
-- What a program holds: resolved trees, in numbered blocks.
pub mod Tree
-- The tree that a value of the code holds.
pub mod TreeOf
-- What the operators give.
pub mod Numbers
-- The values of expressions, and the cells of places.
pub mod Value
-- What holds of each block, by its statements and the blocks before it.
pub mod Blocks
-- What statements do.
pub mod Run
-- The cells that a body may read and may write.
pub mod Access
-- The static steps of a body.
pub mod Count
-- Tests of the leaves of a tree, and of the blocks that it runs.
pub mod Passes
-- What a valid program keeps of its places, blocks, classes and jobs.
pub mod Valid
-- What it keeps of its local variables.
pub mod Locals
-- What it keeps of its names.
pub mod Names
-- What a job does to a memory, what it may read and write, and how many steps it has.
pub mod Effect
-- Laws of what bodies do.
pub mod Laws
