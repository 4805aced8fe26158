-- Loops in bodies: a loop that a text has ends at 1,000,000 at most.
use Rattle.std.specs.Prelude.{Bool, true, ◌&&◌, nat_le}
use Rattle.trick_lang.specs.Locals.{bound_number}
use Rattle.trick_lang.specs.SyntaxTree.{Statement, Empty, Block, Declare, Assign, If, For, Call, Branches, NoElse, Else, Test, Statements, NoStatement, Then}

abbrev mutual
  pub has_short_loops : Statement → Bool
  has_short_loops Empty = true
  has_short_loops (Block all) = are_short_loops all
  has_short_loops (Declare line written name value) = true
  has_short_loops (Assign line p change) = true
  has_short_loops (If branches) = branches_have_short_loops branches
  has_short_loops (For name from bound body) = nat_le (bound_number bound) 1000000 && has_short_loops body
  has_short_loops (Call line name) = true

  pub branches_have_short_loops : Branches → Bool
  branches_have_short_loops NoElse = true
  branches_have_short_loops (Else body) = has_short_loops body
  branches_have_short_loops (Test line test body rest) = has_short_loops body && branches_have_short_loops rest

  pub are_short_loops : Statements → Bool
  are_short_loops NoStatement = true
  are_short_loops (Then s rest) = has_short_loops s && are_short_loops rest
