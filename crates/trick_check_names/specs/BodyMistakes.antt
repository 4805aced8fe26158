-- The mistakes in the names of a body, in the order of its text.
use Rattle.std.specs.Prelude.{ℕ, Bool, true, false, if◌then◌else◌, ◌&&◌, List, [], ◌∷◌, ◌++◌, Option, Some, None}
use Rattle.trick_lang.specs.SyntaxTree.{Name, Expression, Whole, Truth, Named, Prefixed, Chain, Choose, Links, NoLink, Link, Choices, Last, Choice, Path, path, Parts, NoPart, Member, Index, TypeName, Basic, Custom, Change, Set, Update, Increase, Decrease, Statement, Empty, Block, Declare, Assign, If, For, Call, Branches, NoElse, Else, Test, Statements, NoStatement, Then}
use Rattle.trick_lang.specs.declared.scalar.Scalar.{Scalar}
use Rattle.trick_lang.specs.declared.scalar.Scalar.TheVariants.{Int, Long}
use Rattle.trick_check_names.specs.Mistakes.{Mistake, Unknown, NotScalar, twice}
use Rattle.trick_check_names.specs.Names.{Names, meaning_of, with_name}
use Rattle.trick_check_names.specs.Places.{named, is_fixed, own_member, to_member, to_element, literal_of, followed}
use Rattle.trick_check_names.specs.declared.follow.State.{State}
use Rattle.trick_check_names.specs.declared.follow.State.TheVariants.{Stands, Astray, Misfit}
use Rattle.trick_check_names.specs.declared.tables.Base.{Base}
use Rattle.trick_check_names.specs.declared.tables.Base.TheVariants.{Single}
use Rattle.trick_check_names.specs.declared.tables.Global.{Global}
use Rattle.trick_check_names.specs.declared.tables.Global.TheVariants as the
use Rattle.trick_check_names.specs.declared.tables.Lengths.{Lengths}
use Rattle.trick_check_names.specs.declared.tables.Lengths.TheVariants.{Plain}
use Rattle.trick_check_names.specs.declared.tables.Local.{Local}
use Rattle.trick_check_names.specs.declared.tables.Member.{Member as InGroup}
use Rattle.trick_check_names.specs.declared.tables.Member.TheVariants.{Method}
use Rattle.trick_check_names.specs.declared.scope.FileScope.{FileScope}

-- ---- places

-- the line of a literal
abbrev pub line_of : Expression → ℕ
line_of (Whole line n) = line
line_of (Truth line value) = line
line_of _ = 0

-- what is named there is not there
abbrev pub astray : ℕ → State → List Mistake
astray line Astray = Unknown line ∷ []
astray line _ = []

-- a step from a place leads to what is not there
abbrev pub strays : ℕ → State → State → List Mistake
strays line (Stands shape) next = astray line next
strays line _ next = []

-- a place must reach a scalar
abbrev pub unless_single : ℕ → Lengths → Base → List Mistake
unless_single line Plain (Single scalar) = []
unless_single line _ _ = NotScalar line ∷ []

abbrev pub ends : ℕ → State → List Mistake
ends line (Stands shape) = unless_single line shape.lengths shape.base
ends line Astray = []
ends line Misfit = NotScalar line ∷ []

-- what cannot be assigned is no place to assign
abbrev pub unless_fixed : Bool → State → State
unless_fixed fixed (Stands shape) = if fixed then Misfit else Stands shape
unless_fixed fixed Astray = Astray
unless_fixed fixed Misfit = Misfit

-- ---- expressions

abbrev mutual
  pub expression_mistakes : Expression → FileScope → Names Local → List Mistake
  expression_mistakes (Whole line n) w locals = []
  expression_mistakes (Truth line value) w locals = []
  expression_mistakes (Named p) w locals = path_mistakes p false w locals
  expression_mistakes (Prefixed o e) w locals = expression_mistakes e w locals
  expression_mistakes (Chain e links) w locals = expression_mistakes e w locals ++ link_mistakes links w locals
  expression_mistakes (Choose choices) w locals = choice_mistakes choices w locals

  pub link_mistakes : Links → FileScope → Names Local → List Mistake
  link_mistakes NoLink w locals = []
  link_mistakes (Link o e rest) w locals = expression_mistakes e w locals ++ link_mistakes rest w locals

  pub choice_mistakes : Choices → FileScope → Names Local → List Mistake
  choice_mistakes (Last e) w locals = expression_mistakes e w locals
  choice_mistakes (Choice test e rest) w locals =
      expression_mistakes test w locals ++ (expression_mistakes e w locals ++ choice_mistakes rest w locals)

  -- A place, which may be assigned. That it is no scalar is a mistake at its first name, and so it
  -- stands before the mistakes of its parts.
  pub path_mistakes : Path → Bool → FileScope → Names Local → List Mistake
  path_mistakes (path line name parts) assigned w locals =
      ends line (unless_fixed (assigned && is_fixed name w locals) (followed parts w (named name w locals)))
      ++ (astray line (named name w locals) ++ part_mistakes parts w locals (named name w locals))

  -- The expression of an index is looked at wherever the place has come to.
  pub part_mistakes : Parts → FileScope → Names Local → State → List Mistake
  part_mistakes NoPart w locals s = []
  part_mistakes (Member line name rest) w locals s =
      strays line s (to_member name w s) ++ part_mistakes rest w locals (to_member name w s)
  part_mistakes (Index e rest) w locals s =
      expression_mistakes e w locals
      ++ (strays (line_of e) s (to_element (literal_of e) s)
      ++ part_mistakes rest w locals (to_element (literal_of e) s))

abbrev pub change_mistakes : Change → FileScope → Names Local → List Mistake
change_mistakes (Set e) w locals = expression_mistakes e w locals
change_mistakes (Update o e) w locals = expression_mistakes e w locals
change_mistakes Increase w locals = []
change_mistakes Decrease w locals = []

abbrev pub first_value_mistakes : Option Expression → FileScope → Names Local → List Mistake
first_value_mistakes None w locals = []
first_value_mistakes (Some e) w locals = expression_mistakes e w locals

-- ---- locals

-- the type of a local is a scalar or an enum, and is declared before it
abbrev pub local_type_mistakes : ℕ → Option Global → List Mistake
local_type_mistakes line (Some the.Enum) = []
local_type_mistakes line (Some (the.Struct k)) = NotScalar line ∷ []
local_type_mistakes line (Some (the.Class k)) = NotScalar line ∷ []
local_type_mistakes line _ = Unknown line ∷ []

abbrev pub type_mistakes : TypeName → FileScope → List Mistake
type_mistakes (Basic scalar) w = []
type_mistakes (Custom line name) w = local_type_mistakes line (meaning_of name w.names)

-- the scalar of a local, which is an `int` for an enum
abbrev pub scalar_of : TypeName → Scalar
scalar_of (Basic scalar) = scalar
scalar_of (Custom line name) = Int

-- a local is known from its name on
abbrev pub declared : TypeName → Name → Names Local → Names Local
declared written name locals = with_name name (record { scalar = scalar_of written; is_loop = false }) locals

abbrev pub loop_in : Name → Names Local → Names Local
loop_in name locals = with_name name (record { scalar = Long; is_loop = true }) locals

-- the locals that are known after a statement: its own, and none of those in it
abbrev pub after : Statement → Names Local → Names Local
after (Declare line written name value) locals = declared written name locals
after _ locals = locals

abbrev pub after_all : Statements → Names Local → Names Local
after_all NoStatement locals = locals
after_all (Then s rest) locals = after_all rest (after s locals)

-- ---- statements

-- a method that is called is one of the class
abbrev pub call_mistakes : ℕ → Option InGroup → List Mistake
call_mistakes line (Some (Method k)) = []
call_mistakes line _ = Unknown line ∷ []

abbrev mutual
  pub statement_mistakes : Statement → FileScope → Names Local → List Mistake
  statement_mistakes Empty w locals = []
  statement_mistakes (Block all) w locals = all_mistakes all w locals
  statement_mistakes (Declare line written name value) w locals =
      type_mistakes written w ++ (twice name locals ++ first_value_mistakes value w (declared written name locals))
  statement_mistakes (Assign line p change) w locals = path_mistakes p true w locals ++ change_mistakes change w locals
  statement_mistakes (If branches) w locals = branch_mistakes branches w locals
  statement_mistakes (For name from bound body) w locals =
      twice name locals ++ statement_mistakes body w (loop_in name locals)
  statement_mistakes (Call line name) w locals = call_mistakes line (own_member name w)

  pub branch_mistakes : Branches → FileScope → Names Local → List Mistake
  branch_mistakes NoElse w locals = []
  branch_mistakes (Else body) w locals = statement_mistakes body w locals
  branch_mistakes (Test line test body rest) w locals =
      expression_mistakes test w locals ++ (statement_mistakes body w locals ++ branch_mistakes rest w locals)

  pub all_mistakes : Statements → FileScope → Names Local → List Mistake
  all_mistakes NoStatement w locals = []
  all_mistakes (Then s rest) w locals = statement_mistakes s w locals ++ all_mistakes rest w (after s locals)
