-- What statements become, and the blocks in them. What the text nests stands in blocks, which are
-- numbered by counting: the blocks in a statement come before the one that it stands in. What
-- follows is said of every tree; of one that a reader or a check of names refuses it says something
-- that nobody relies on.
use Rattle.std.specs.Prelude.{ℕ, ◌+◌, true, false, if◌then◌else◌, nat_le, List, [], ◌∷◌, ◌++◌, length, Option, Some, None}
use Rattle.trick_check_blocks.specs.Terms.{Goal, OfLocal, OfNumber, OfPlace, OfNothing, term, path_goal}
use Rattle.trick_check_blocks.specs.declared.start.Local.{Local}
use Rattle.trick_check_blocks.specs.declared.scope.ClassScope.{ClassScope}
use Rattle.trick_lang.specs.Locals.{bound_number}
use Rattle.trick_lang.specs.SyntaxTree.{Name, Expression, TypeName, Basic, Custom, Change, Set, Update, Increase, Decrease, Statement, Empty, Block, Declare, Assign, If, For, Call, Branches, NoElse, Else, Test, Statements, NoStatement, Then}
use Rattle.trick_lang.specs.Tree as Tree
use Rattle.trick_lang.specs.Tree.{Code, Term}
use Rattle.trick_lang.specs.declared.bound.Bound.{Bound}
use Rattle.trick_lang.specs.declared.scalar.Scalar.{Scalar}
use Rattle.trick_lang.specs.declared.scalar.Scalar.TheVariants.{Int, Long}
use Rattle.trick_check_names.specs.Names.{Names, meaning_of, with_name}

-- ---- locals

-- the scalar of a local, which is an `int` for an enum
abbrev pub scalar_of : TypeName → Scalar
scalar_of (Basic scalar) = scalar
scalar_of (Custom line name) = Int

-- Locals have slots in the order in which they became known, so that one that is known no more
-- leaves its slot to the next.
abbrev pub slot_behind : ClassScope → Names Local → ℕ
slot_behind w locals = w.slots + length locals

abbrev pub free_slot : Option Local → ℕ → Option ℕ
free_slot None slot = Some slot
free_slot (Some local) slot = None

-- the slot of a new local, whose name was not known
abbrev pub new_slot : Name → ClassScope → Names Local → Option ℕ
new_slot name w locals = free_slot (meaning_of name locals) (slot_behind w locals)

-- a local is known from its name on
abbrev pub declared : TypeName → Name → ClassScope → Names Local → Names Local
declared written name w locals =
    with_name name (record { slot = slot_behind w locals; scalar = scalar_of written; is_loop = false }) locals

-- the variable of a loop is a `long`
abbrev pub loop_in : Name → ClassScope → Names Local → Names Local
loop_in name w locals = with_name name (record { slot = slot_behind w locals; scalar = Long; is_loop = true }) locals

-- the slot of a loop's variable, where the bound of the loop is at most 1,000,000
abbrev pub loop_slot : Name → Bound → ClassScope → Names Local → Option ℕ
loop_slot name bound w locals = if nat_le (bound_number bound) 1000000 then new_slot name w locals else None

-- the locals that are known after a statement: its own, and none of those in it
abbrev pub after : Statement → ClassScope → Names Local → Names Local
after Empty w locals = locals
after (Block all) w locals = locals
after (Declare line written name value) w locals = declared written name w locals
after (Assign line p change) w locals = locals
after (If branches) w locals = locals
after (For name from bound body) w locals = locals
after (Call line name) w locals = locals

abbrev pub after_all : Statements → ClassScope → Names Local → Names Local
after_all NoStatement w locals = locals
after_all (Then s rest) w locals = after_all rest w (after s w locals)

-- ---- what has no blocks

abbrev pub change_term : Change → ClassScope → Names Local → Tree.Change
change_term (Set e) w locals = Tree.Set (term e w locals)
change_term (Update o e) w locals = Tree.Update o (term e w locals)
change_term Increase w locals = Tree.Increase
change_term Decrease w locals = Tree.Decrease

abbrev pub value_term : Option Expression → ClassScope → Names Local → Option Term
value_term None w locals = None
value_term (Some e) w locals = Some (term e w locals)

abbrev pub declared_code : ℕ → Option ℕ → Scalar → Option Term → Code
declared_code line None scalar value = Tree.Empty
declared_code line (Some slot) scalar value = Tree.Declare line slot scalar value

-- nothing but its loop gives the variable of a loop a number
abbrev pub local_code : Local → ℕ → Tree.Change → Code
local_code local line change = if local.is_loop then Tree.Empty else Tree.SetLocal line local.slot local.scalar change

abbrev pub goal_code : Goal → ℕ → Tree.Change → Code
goal_code (OfLocal local) line change = local_code local line change
goal_code (OfNumber value) line change = Tree.Empty
goal_code (OfPlace place) line change = Tree.Assign line place change
goal_code OfNothing line change = Tree.Empty

abbrev pub call_code : Option ℕ → Code
call_code None = Tree.Empty
call_code (Some block) = Tree.Run block

abbrev pub loop_code : Option ℕ → ℕ → Bound → ℕ → Code
loop_code None from bound block = Tree.Empty
loop_code (Some slot) from bound block = Tree.For slot from bound block

-- ---- how many blocks a statement has in it

-- a block statement has one of its own, and each branch and each loop one for its body
abbrev mutual
  pub count : Statement → ℕ
  count Empty = 0
  count (Block all) = all_count all + 1
  count (Declare line written name value) = 0
  count (Assign line p change) = 0
  count (If branches) = branch_count branches
  count (For name from bound body) = count body + 1
  count (Call line name) = 0

  pub branch_count : Branches → ℕ
  branch_count NoElse = 0
  branch_count (Else body) = count body + 1
  branch_count (Test line test body rest) = (count body + 1) + branch_count rest

  pub all_count : Statements → ℕ
  all_count NoStatement = 0
  all_count (Then s rest) = count s + all_count rest

-- ---- what a statement becomes, where its blocks have the numbers from n on

-- the body of a branch stands in the last of its blocks
abbrev pub branch_codes : Branches → ClassScope → Names Local → ℕ → Tree.Branches
branch_codes NoElse w locals n = Tree.NoElse
branch_codes (Else body) w locals n = Tree.Else (n + count body)
branch_codes (Test line test body rest) w locals n =
    Tree.Test line (term test w locals) (n + count body) (branch_codes rest w locals (n + (count body + 1)))

abbrev pub code : Statement → ClassScope → Names Local → ℕ → Code
code Empty w locals n = Tree.Empty
code (Block all) w locals n = Tree.Run (n + all_count all)
-- a local is known in its own first value
code (Declare line written name value) w locals n =
    declared_code line (new_slot name w locals) (scalar_of written)
    (value_term value w (declared written name w locals))
code (Assign line p change) w locals n = goal_code (path_goal p w locals) line (change_term change w locals)
code (If branches) w locals n = Tree.If (branch_codes branches w locals n)
code (For name from bound body) w locals n = loop_code (loop_slot name bound w locals) from bound (n + count body)
code (Call line name) w locals n = call_code (meaning_of name w.methods)

abbrev pub all_codes : Statements → ClassScope → Names Local → ℕ → List Code
all_codes NoStatement w locals n = []
all_codes (Then s rest) w locals n = code s w locals n ∷ all_codes rest w (after s w locals) (n + count s)

-- ---- the blocks in a statement, in order, where the first has the number n

-- the body of a branch or a loop is a block of that one statement
abbrev mutual
  pub inner : Statement → ClassScope → Names Local → ℕ → List (List Code)
  inner Empty w locals n = []
  inner (Block all) w locals n = all_inner all w locals n ++ all_codes all w locals n ∷ []
  inner (Declare line written name value) w locals n = []
  inner (Assign line p change) w locals n = []
  inner (If branches) w locals n = branch_inner branches w locals n
  inner (For name from bound body) w locals n =
      inner body w (loop_in name w locals) n ++ (code body w (loop_in name w locals) n ∷ []) ∷ []
  inner (Call line name) w locals n = []

  pub branch_inner : Branches → ClassScope → Names Local → ℕ → List (List Code)
  branch_inner NoElse w locals n = []
  branch_inner (Else body) w locals n = inner body w locals n ++ (code body w locals n ∷ []) ∷ []
  branch_inner (Test line test body rest) w locals n =
      (inner body w locals n ++ (code body w locals n ∷ []) ∷ []) ++ branch_inner rest w locals (n + (count body + 1))

  pub all_inner : Statements → ClassScope → Names Local → ℕ → List (List Code)
  all_inner NoStatement w locals n = []
  all_inner (Then s rest) w locals n = inner s w locals n ++ all_inner rest w (after s w locals) (n + count s)
