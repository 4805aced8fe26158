-- The places of a condition, by their full names.
use Rattle.std.specs.Prelude.{ℤ, Bool, false, ◌||◌, ◌++◌, [], Option, Some, None, is_none, if◌then◌else◌}
use Rattle.trick_check_blocks.specs.Places.{literal_of}
use Rattle.trick_plan_conditions.specs.declared.place.Referent.{Referent}
use Rattle.trick_plan_conditions.specs.declared.place.Referent.TheVariants as stands_for
use Rattle.trick_lang.specs.SyntaxTree.{Name, Parts, NoPart, Member, Index}
use Rattle.trick_lang.specs.declared.cells.Cell.{Cell}
use Rattle.trick_check_bodies.specs.Named.{path_text}

-- What names are known to stand for: that of an enum item for its value, and the full name of a cell
-- for the cell.
pub record Known : Type 0 where
  pub item : Name → Option ℤ
  pub cell : Name → Option Cell

-- some index of the place is no literal
abbrev pub has_computed : Parts → Bool
has_computed NoPart = false
has_computed (Member line name rest) = has_computed rest
has_computed (Index e rest) = is_none (literal_of e) || has_computed rest

-- Of an enum item and a cell of one name, the item counts.
abbrev pub item_or_cell : Option ℤ → Option Cell → Referent
item_or_cell (Some value) cell = stands_for.Item value
item_or_cell None (Some cell) = stands_for.Cell cell
item_or_cell None None = stands_for.Nothing

-- The full name of a place. One with an index that is no literal has none.
abbrev pub full_name : Name → Parts → Option Name
full_name name parts = if has_computed parts then None else Some (name ++ path_text parts [])

-- What a full name stands for; a place without one is not looked up.
abbrev pub looked_up : Known → Option Name → Referent
looked_up known None = stands_for.Computed
looked_up known (Some name) = item_or_cell (known.item name) (known.cell name)

-- What a place stands for.
abbrev pub referent_of : Known → Name → Parts → Referent
referent_of known name parts = looked_up known (full_name name parts)
