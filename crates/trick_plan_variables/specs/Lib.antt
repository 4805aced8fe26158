-- The grammar of a declaration, and what a text declares.
pub mod Grammar
-- The cells that a declaration adds, and why it is refused.
pub mod Cells
-- Laws of declarations.
pub mod Laws
