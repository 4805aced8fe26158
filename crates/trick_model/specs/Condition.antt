-- The condition of an event.
use Rattle.std.specs.List.{slice_index_or}
use Rattle.std.specs.Prelude.{ℕ, ◌+◌, nat_le, nat_lt, not, ℤ, pos, Bool, true, false, ◌&&◌, List, [], Option, Some, None, Result, Ok, Err}
use Rattle.trick_lang.specs.Access.{term_reads}
use Rattle.trick_lang.specs.Tree.{Term, Number, Local, Cell, Prefixed, Chain, Choose, Links, NoLink, Link, Choices, Last, Choice, Spot, spot, Steps, NoStep, Step}
use Rattle.trick_lang.specs.TreeOf.{term_of}
use Rattle.trick_lang.specs.Value.{value}
use Rattle.trick_lang.specs.declared.fault.FaultKind.{FaultKind}
use Rattle.trick_lang.specs.declared.operator.Arithmetic.{Arithmetic}
use Rattle.trick_lang.specs.declared.operator.Arithmetic.TheVariants as arithmetic
use Rattle.trick_lang.specs.declared.operator.Operator.{Operator}
use Rattle.trick_lang.specs.declared.operator.Operator.TheVariants as operator
use Rattle.trick_lang.specs.declared.range.CellRange.{CellRange}
use Rattle.trick_lang.specs.declared.tree.Expr.{Expr}

-- ---- which terms are conditions

-- `/` and `%`
abbrev pub divides : Arithmetic → Bool
divides arithmetic.Times = false
divides arithmetic.Divide = true
divides arithmetic.Remainder = true
divides arithmetic.Plus = false
divides arithmetic.Minus = false
divides arithmetic.ShiftLeft = false
divides arithmetic.ShiftRight = false
divides arithmetic.BitAnd = false
divides arithmetic.BitXor = false
divides arithmetic.BitOr = false

-- an operator that cannot fault
abbrev pub is_safe : Operator → Bool
is_safe (operator.Arithmetic o) = not (divides o)
is_safe (operator.Comparison o) = true
is_safe operator.And = true
is_safe operator.Or = true

-- no index of the place is computed
abbrev pub has_no_step : Steps → Bool
has_no_step NoStep = true
has_no_step (Step length stride e rest) = false

-- a place with literal indexes alone, which is one of so many cells
abbrev pub is_plain_place : ℕ → Spot → Bool
is_plain_place cells (spot own first span offset literals steps) =
    not own && (has_no_step steps && (nat_lt offset span && nat_le (first + span) cells))

-- A condition has no `/`, no `%` and literal indexes alone, so that it cannot fault, and no local
-- variables. Its cells are among so many.
abbrev mutual
  pub is_condition : ℕ → Term → Bool
  is_condition cells (Number n) = true
  is_condition cells (Local slot) = false
  is_condition cells (Cell place) = is_plain_place cells place
  is_condition cells (Prefixed o e) = is_condition cells e
  is_condition cells (Chain e links) = is_condition cells e && are_conditions cells links
  is_condition cells (Choose choices) = are_all_conditions cells choices

  pub are_conditions : ℕ → Links → Bool
  are_conditions cells NoLink = true
  are_conditions cells (Link o e rest) = is_safe o && (is_condition cells e && are_conditions cells rest)

  pub are_all_conditions : ℕ → Choices → Bool
  are_all_conditions cells (Last e) = is_condition cells e
  are_all_conditions cells (Choice test e rest) =
      is_condition cells test && (is_condition cells e && are_all_conditions cells rest)

-- an event may have no condition
abbrev pub is_condition_of : ℕ → Option Expr → Bool
is_condition_of cells None = true
is_condition_of cells (Some e) = is_condition cells (term_of e)

-- ---- what a condition says

-- a condition has no fault, so that this 0 never matters
abbrev pub number_or_0 : Result ℤ FaultKind → ℤ
number_or_0 (Ok n) = n
number_or_0 (Err kind) = pos 0

-- the value of a condition in a memory
abbrev pub condition_value : Term → List ℤ → ℤ
condition_value term memory =
    let numbers : ℕ → ℤ = λ cell. slice_index_or memory cell (pos 0) in
    number_or_0 (value term (record { base = 0; cell = numbers; local = λ slot. pos 0 }))

-- the value of an event's condition
abbrev pub condition_of : Option Expr → Option (List ℤ → ℤ)
condition_of None = None
condition_of (Some e) = Some (condition_value (term_of e))

-- the cells that a condition reads
abbrev pub condition_reads : Option Expr → List CellRange
condition_reads None = []
condition_reads (Some e) = term_reads (term_of e) 0
