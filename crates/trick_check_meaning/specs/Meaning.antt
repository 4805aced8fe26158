-- What the parts of a body mean, straight on the tree of its text: local variables, members, items and
-- objects by their names, and the numbers of the memory by their full names. What the operators give
-- is said in `Numbers` of trick_lang, and what a store leaves of a number in `Wrap`. What follows is
-- said of every tree; of one in whose names there is a mistake it says something that nobody relies on.
use Rattle.std.specs.Prelude.{ℕ, zero, suc, ◌+◌, ℤ, pos, negsuc, if◌then◌else◌, nat_lt, List, [], ◌∷◌, ◌++◌, length, take, Option, Some, None, unwrap_or, Result, Ok, Err}
use Rattle.std.specs.Str.{bytes_eq}
use Rattle.trick_check_cells.specs.Cells.{bracket, dotted}
use Rattle.trick_lang.specs.Numbers.{and_then, applied, is_true, joined, number_of, prefixed}
use Rattle.trick_lang.specs.Run.{at_line, turn_count}
use Rattle.trick_lang.specs.SyntaxTree.{Name, Expression, Whole, Truth, Named, Prefixed, Chain, Choose, Links, NoLink, Link, Choices, Last, Choice, Path, path, Parts, NoPart, Member, Index, Change, Set, Update, Increase, Decrease, Statement, Empty, Block, Declare, Assign, If, For, Call, Branches, NoElse, Else, Test, Statements, NoStatement, Then}
use Rattle.trick_lang.specs.Wrap.{wrap}
use Rattle.trick_lang.specs.declared.fault.FaultKind.{FaultKind}
use Rattle.trick_lang.specs.declared.fault.FaultKind.TheVariants.{IndexOutOfRange}
use Rattle.trick_lang.specs.declared.fault.StatementFault.{StatementFault}
use Rattle.trick_lang.specs.declared.operator.Arithmetic.TheVariants.{Plus, Minus}
use Rattle.trick_lang.specs.declared.scalar.Scalar.{Scalar}
use Rattle.trick_lang.specs.declared.scalar.Scalar.TheVariants.{Long}
use Rattle.trick_check_names.specs.BodyMistakes.{scalar_of}
use Rattle.trick_check_names.specs.Names.{Names, meaning_of}
use Rattle.trick_check_names.specs.Places.{own_member, to_element, to_member}
use Rattle.trick_check_names.specs.declared.follow.State.{State as Reach}
use Rattle.trick_check_names.specs.declared.follow.State.TheVariants.{Stands, Astray, Misfit}
use Rattle.trick_check_names.specs.declared.tables.Base.{Base}
use Rattle.trick_check_names.specs.declared.tables.Base.TheVariants.{Single, Group}
use Rattle.trick_check_names.specs.declared.tables.Global.{Global}
use Rattle.trick_check_names.specs.declared.tables.Global.TheVariants.{Item, Object}
use Rattle.trick_check_names.specs.declared.tables.Lengths.{Lengths}
use Rattle.trick_check_names.specs.declared.tables.Lengths.TheVariants.{Plain, One, Two}
use Rattle.trick_check_names.specs.declared.tables.Member.{Member as InGroup}
use Rattle.trick_check_names.specs.declared.tables.Member.TheVariants.{Variable, Method}
use Rattle.trick_check_names.specs.declared.scope.FileScope.{FileScope}

-- ---- where a body has come to

-- what was stored, by full name, the last first
abbrev pub Stored : Type 0
Stored = Names ℤ

-- a local variable: its type, and its number now
pub record Local : Type 0 where
  pub scalar : Scalar
  pub number : ℤ

-- how far a body has come: what it stored, and the local variables that are known, the last one last
pub record State : Type 0 where
  pub stored : Stored
  pub locals : Names Local

-- what stays while a body runs: what its file declares and which class it is of, the name of its
-- object, the memory at its start, and what each method of the class does to what was stored
pub record Setting : Type 0 where
  pub scope : FileScope
  pub object : Name
  pub memory : Name → ℤ
  pub calls : Name → Stored → Result Stored StatementFault

-- a full name has the number last stored to it, or else the memory's
abbrev pub number_at : Name → Setting → State → ℤ
number_at full x s = unwrap_or (meaning_of full s.stored) (x.memory full)

-- ---- what a first name stands for

pub data Meant : Type 0 where
  OfLocal : Local → Meant
  OfItem : ℤ → Meant
  -- a variable of the object, or an object of the file: its full name, and what it is
  OfPlace : Name → Reach → Meant
  OfNothing : Meant

abbrev pub global_meant : Name → Option Global → Meant
global_meant name (Some (Item value)) = OfItem value
global_meant name (Some (Object base)) = OfPlace name (Stands (record { lengths = Plain; base = base }))
global_meant name _ = OfNothing

-- a member of the object hides items and objects; a method does not
abbrev pub member_meant : Name → Name → Option InGroup → Option Global → Meant
member_meant object name (Some (Variable shape)) global = OfPlace (object ++ dotted name) (Stands shape)
member_meant object name (Some (Method k)) global = global_meant name global
member_meant object name None global = global_meant name global

-- a local variable hides all of them
abbrev pub local_meant : Name → Name → Option Local → Option InGroup → Option Global → Meant
local_meant object name (Some local) member global = OfLocal local
local_meant object name None member global = member_meant object name member global

abbrev pub meant : Name → Setting → State → Meant
meant name x s = local_meant x.object name (meaning_of name s.locals) (own_member name x.scope)
    (meaning_of name x.scope.tables.names)

-- ---- expressions and places

-- where a path has come to: its full name so far, and what is there
pub record Place : Type 0 where
  pub full : Name
  pub there : Reach

-- how many elements an array has; what is no array has none
abbrev pub length_of : Lengths → ℕ
length_of Plain = 0
length_of (One n) = n
length_of (Two m n) = m

abbrev pub length_there : Reach → ℕ
length_there (Stands shape) = length_of shape.lengths
length_there _ = 0

-- an index below 0, or not below the length of its array, is a fault
abbrev pub checked : ℕ → ℤ → Result ℕ FaultKind
checked length (pos n) = if nat_lt n length then Ok n else Err IndexOutOfRange
checked length (negsuc n) = Err IndexOutOfRange

-- the number of what a first name stands for, and where its further parts lead
abbrev pub read : Meant → (Name → Reach → Result Place FaultKind) → Setting → State → Result ℤ FaultKind
read (OfLocal local) further x s = Ok local.number
read (OfItem value) further x s = Ok value
read (OfPlace full there) further x s = and_then (further full there) (λ p. Ok (number_at p.full x s))
read OfNothing further x s = Ok (pos 0)

abbrev mutual
  -- the value of an expression; operands go left to right, and a literal is wrapped to 64 bits
  pub value : Expression → Setting → State → Result ℤ FaultKind
  value (Whole line n) x s = Ok (wrap Long (pos n))
  value (Truth line b) x s = Ok (number_of b)
  value (Named p) x s = path_value p x s
  value (Prefixed o e) x s = and_then (value e x s) (λ n. Ok (prefixed o n))
  value (Chain e links) x s = and_then (value e x s) (λ n. linked links n x s)
  value (Choose choices) x s = chosen choices x s

  -- a chain of operators is grouped from the left
  pub linked : Links → ℤ → Setting → State → Result ℤ FaultKind
  linked NoLink n x s = Ok n
  linked (Link o e rest) n x s = and_then (joined o n (value e x s)) (λ m. linked rest m x s)

  -- a choice evaluates its test and one of its parts
  pub chosen : Choices → Setting → State → Result ℤ FaultKind
  chosen (Last e) x s = value e x s
  chosen (Choice test e rest) x s =
      and_then (value test x s) (λ t. if is_true t then value e x s else chosen rest x s)

  pub path_value : Path → Setting → State → Result ℤ FaultKind
  path_value (path line name parts) x s = read (meant name x s) (λ full there. led parts full there x s) x s

  -- each index is evaluated and checked before the next one, from left to right
  pub led : Parts → Name → Reach → Setting → State → Result Place FaultKind
  led NoPart full there x s = Ok (record { full = full; there = there })
  led (Member line name rest) full there x s = led rest (full ++ dotted name) (to_member name x.scope there) x s
  led (Index e rest) full there x s =
      and_then (value e x s) (λ n. and_then (checked (length_there there) n)
      (λ k. led rest (full ++ bracket k) (to_element None there) x s))

-- ---- assignments

abbrev pub with_stored : Name → ℤ → State → State
with_stored full n s = record { stored = (full, n) ∷ s.stored; locals = s.locals }

abbrev pub with_number : Name → ℤ → Names Local → Names Local
with_number name n [] = []
with_number name n (l ∷ ls) =
    if bytes_eq name l.0 then (l.0, record { scalar = l.1.scalar; number = n }) ∷ ls else l ∷ with_number name n ls

abbrev pub with_local : Name → ℤ → State → State
with_local name n s = record { stored = s.stored; locals = with_number name n s.locals }

-- one more local variable is known
abbrev pub with_new : Name → Scalar → ℤ → State → State
with_new name scalar n s =
    record { stored = s.stored; locals = s.locals ++ (name, record { scalar = scalar; number = n }) ∷ [] }

-- the type of a number that has been reached
abbrev pub base_scalar : Base → Scalar
base_scalar (Single scalar) = scalar
base_scalar (Group k) = Long

abbrev pub scalar_there : Reach → Scalar
scalar_there (Stands shape) = base_scalar shape.base
scalar_there _ = Long

-- the number that an assignment makes of the old one: `p op= e` is `p = p op (e)`, `p++` is `p += 1`
-- and `p--` is `p -= 1`
abbrev pub changed : Change → ℤ → Setting → State → Result ℤ FaultKind
changed (Set e) old x s = value e x s
changed (Update o e) old x s = and_then (value e x s) (λ n. applied o old n)
changed Increase old x s = applied Plus old (pos 1)
changed Decrease old x s = applied Minus old (pos 1)

-- the place's indexes come first and are evaluated once, then the right side, then the operator
abbrev pub assigned : Name → Reach → Parts → Change → Setting → State → Result (Place × ℤ) FaultKind
assigned full there parts change x s =
    and_then (led parts full there x s) (λ p. and_then (changed change (number_at p.full x s) x s) (λ n. Ok (p, n)))

-- a store wraps to the type of the variable; an item is not assigned
abbrev pub assign : Meant → ℕ → Name → Parts → Change → Setting → State → Result State StatementFault
assign (OfLocal local) line name parts change x s =
    at_line line (changed change local.number x s) (λ n. Ok (with_local name (wrap local.scalar n) s))
assign (OfItem value) line name parts change x s = Ok s
assign (OfPlace full there) line name parts change x s =
    at_line line (assigned full there parts change x s)
    (λ w. Ok (with_stored w.0.full (wrap (scalar_there w.0.there) w.1) s))
assign OfNothing line name parts change x s = Ok s

-- the first value of a local variable: 0 where none is written
abbrev pub first_value : Option Expression → Setting → State → Result ℤ FaultKind
first_value None x s = Ok (pos 0)
first_value (Some e) x s = value e x s

-- a local variable is 0 where its declaration is reached, also in its own first value, which it then gets
abbrev pub declare : ℕ → Scalar → Name → Option Expression → Setting → State → Result State StatementFault
declare line scalar name e x s =
    let t = with_new name scalar (pos 0) s in
    at_line line (first_value e x t) (λ n. Ok (with_local name (wrap scalar n) t))

abbrev pub path_assign : Path → ℕ → Change → Setting → State → Result State StatementFault
path_assign (path at name parts) line change x s = assign (meant name x s) line name parts change x s

-- ---- statements

-- what becomes known in a part ends with it: as many local variables are known as before it
abbrev pub ended : State → State → State
ended before s = record { stored = s.stored; locals = take (length before.locals) s.locals }

abbrev pub within : State → Result State StatementFault → Result State StatementFault
within before after = and_then after (λ s. Ok (ended before s))

-- a loop is the list of its turns, from number k on
abbrev pub turns : (ℕ → State → Result State StatementFault) → ℕ → ℕ → State → Result State StatementFault
turns turn k zero s = Ok s
turns turn k (suc n) s = and_then (turn k s) (turns turn (k + 1) n)

-- a called method sees what was stored, and none of the local variables
abbrev pub called : Name → Setting → State → Result State StatementFault
called name x s = and_then (x.calls name s.stored) (λ stored. Ok (record { stored = stored; locals = s.locals }))

abbrev mutual
  -- a statement runs to a new state or to its first fault, which has the statement's line
  pub run : Statement → Setting → State → Result State StatementFault
  run Empty x s = Ok s
  run (Block all) x s = within s (run_all all x s)
  run (Declare line written name e) x s = declare line (scalar_of written) name e x s
  run (Assign line p change) x s = path_assign p line change x s
  run (If branches) x s = run_branch branches x s
  -- in each turn the variable is new, and has the turn's number
  run (For name from bound body) x s =
      turns (λ k t. within t (run body x (with_new name Long (pos k) t))) from (turn_count from bound) s
  run (Call line name) x s = called name x s

  -- the first branch whose test is true, or else what stands after the last `else`
  pub run_branch : Branches → Setting → State → Result State StatementFault
  run_branch NoElse x s = Ok s
  run_branch (Else body) x s = within s (run body x s)
  run_branch (Test line test body rest) x s =
      at_line line (value test x s) (λ n. if is_true n then within s (run body x s) else run_branch rest x s)

  pub run_all : Statements → Setting → State → Result State StatementFault
  run_all NoStatement x s = Ok s
  run_all (Then b rest) x s = and_then (run b x s) (λ t. run_all rest x t)
