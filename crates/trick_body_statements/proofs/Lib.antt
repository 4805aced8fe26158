-- the next token decides each step of the grammar of expressions
pub mod ExpressionTests
-- the next token decides each step of the grammar of statements
pub mod StatementTests
-- the next token decides each step of the grammar of methods
pub mod MethodTests
-- trees of lists
pub mod Lists
