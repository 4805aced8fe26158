-- Laws of conditions.
use Rattle.std.specs.Prelude.{◌≡◌, ℕ, ◌<◌, true, false, IsTrue, Option, Some}
use Rattle.trick_plan_conditions.specs.Conditions.{has_unknown, is_plain, term}
use Rattle.trick_plan_conditions.specs.Places.{Known}
use Rattle.trick_lang.specs.SyntaxTree.{Name, Expression}
use Rattle.trick_lang.specs.declared.cells.Cell.{Cell}
use Rattle.trick_model.specs.Condition.{is_condition}

-- Each known cell is one of so many.
abbrev pub KnowsCells : ℕ → Known → Type 0
KnowsCells cells known = (name : Name) (cell : Cell) → known.cell name ≡ Some cell → cell.0 < cells

-- A plain condition is a condition of an event, whose cells are those that names are known for.
abbrev pub PlainConditionsHold : Type 0
PlainConditionsHold =
    (known : Known) (cells : ℕ) → KnowsCells cells known → (e : Expression) → is_plain e ≡ true
    → IsTrue (is_condition cells (term known e))
