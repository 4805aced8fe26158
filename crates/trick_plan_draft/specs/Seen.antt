-- What values of the code are.
use Rattle.std.specs.Borrow.{Bor}
use Rattle.std.specs.Prelude.{◌≡◌, ◌+◌, nat_lt, true, false, List, ◌++◌, length, Option, Some, None, Result, Ok, Err}
use Rattle.trick_plan_conditions.specs.Conditions.{has_unknown, term}
use Rattle.trick_plan_conditions.specs.Places.{Known}
use Rattle.trick_plan_variables.specs.Cells.{cells_of, count_of}
use Rattle.trick_plan_variables.specs.declared.declaration.Declaration.{Declaration}
use Rattle.trick_plan_variables.specs.declared.spelled.SpelledDeclaration.{SpelledDeclaration}
use Rattle.trick_plan_draft.specs.declared.fault.LineFault.{LineFault}
use Rattle.trick_plan_draft.specs.declared.fault.LineFault.TheVariants as fault
use Rattle.trick_lang.specs.Syntax.{expression_of}
use Rattle.trick_lang.specs.SyntaxTree.{Expression}
use Rattle.trick_lang.specs.Tree.{Term}
use Rattle.trick_lang.specs.declared.syntax.expression.Expr.{Expr}
use Rattle.trick_lang.specs.declared.variable.Variable.{Variable}

-- a declaration after its reference
abbrev pub declared_in : Option (Bor SpelledDeclaration) → Option Declaration
declared_in None = None
declared_in (Some known) = Some known.now.declaration

-- the tree of a condition after its reference
abbrev pub condition_in : Option (Bor Expr) → Option Expression
condition_in None = None
condition_in (Some e) = Some (expression_of e.now)

-- A condition is resolved, or has an unknown name. A want of memory may come at any time.
abbrev pub IsResolved : Known → Expression → Result Term LineFault → Type 0
IsResolved known e (Ok resolved) = (has_unknown known e ≡ false) × (resolved ≡ term known e)
IsResolved known e (Err fault.UnknownName) = has_unknown known e ≡ true
IsResolved known e (Err fault.OutOfMemory) = Unit {0}
IsResolved known e (Err other) = ⊥

-- The cells of a declaration are added, or would be too many. A want of memory may come at any time.
abbrev pub AddsDeclared : Result (Unit {0}) LineFault → List Variable → List Variable → Declaration → Type 0
AddsDeclared (Ok done) old new declared =
    (nat_lt 65536 (length old + count_of declared.lengths) ≡ false) × (new ≡ old ++ cells_of declared)
AddsDeclared (Err fault.OutOfMemory) old new declared = Unit {0}
AddsDeclared (Err (fault.TooMany limit)) old new declared =
    (limit ≡ 65536) × (nat_lt 65536 (length old + count_of declared.lengths) ≡ true)
AddsDeclared (Err other) old new declared = ⊥
