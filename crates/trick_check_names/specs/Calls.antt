-- Which methods of a class call which. A method has the number of its part in the class.
use Rattle.std.specs.Prelude.{ℕ, List, [], ◌∷◌, ◌++◌, Option, Some, None}
use Rattle.trick_lang.specs.SyntaxTree as tree
use Rattle.trick_lang.specs.SyntaxTree.{Statement, Empty, Block, Declare, Assign, If, For, Call, Branches, NoElse, Else, Test, Statements, NoStatement, Then, HasMethod}
use Rattle.trick_check_names.specs.Names.{Names, meaning_of}
use Rattle.trick_check_names.specs.declared.tables.Member.{Member}
use Rattle.trick_check_names.specs.declared.tables.Member.TheVariants.{Method}

-- the method of that name; what is no method is not called
abbrev pub method_of : Option Member → List ℕ
method_of (Some (Method number)) = number ∷ []
method_of _ = []

-- the methods that a body calls, in the order of its text, where the class has these members
abbrev mutual
  pub statement_calls : Statement → Names Member → List ℕ
  statement_calls Empty own = []
  statement_calls (Block all) own = all_calls all own
  statement_calls (Declare line written name value) own = []
  statement_calls (Assign line p change) own = []
  statement_calls (If branches) own = branch_calls branches own
  statement_calls (For name from bound body) own = statement_calls body own
  statement_calls (Call line name) own = method_of (meaning_of name own)

  pub branch_calls : Branches → Names Member → List ℕ
  branch_calls NoElse own = []
  branch_calls (Else body) own = statement_calls body own
  branch_calls (Test line test body rest) own = statement_calls body own ++ branch_calls rest own

  pub all_calls : Statements → Names Member → List ℕ
  all_calls NoStatement own = []
  all_calls (Then s rest) own = statement_calls s own ++ all_calls rest own

-- the methods that a part of a class calls; what is no method calls none
abbrev pub part_calls : tree.Part → Names Member → List ℕ
part_calls (HasMethod m) own = all_calls m.body own
part_calls _ own = []

-- for each part of a class the methods that it calls
abbrev pub class_calls : List tree.Part → Names Member → List (List ℕ)
class_calls [] own = []
class_calls (part ∷ rest) own = part_calls part own ∷ class_calls rest own
