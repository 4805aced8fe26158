-- Laws of names and of bytes.
use Rattle.std.specs.List.{list_all}
use Rattle.std.specs.Prelude.{◌≡◌, ℕ, ◌<◌, ◌==◌, nat_le, ℤ, Bool, ◌&&◌, ◌||◌, IsTrue, List, length, Some}
use Rattle.trick_lang.specs.Wrap.{AreInRange}
use Rattle.trick_lang.specs.declared.cells.Cell.{Cell}
use Rattle.trick_lang.specs.declared.scalar.Scalar.{Scalar}
use Rattle.trick_memory.specs.Listing.{name_text}
use Rattle.trick_memory.specs.Packed.{bytes_of, numbers_of}
use Rattle.trick_memory.specs.Stored.{cell_of}
use Rattle.trick_model.specs.NameAt.{cell_name}
use Rattle.trick_model.specs.Valid.{cell_names}
use Rattle.trick_model.specs.declared.plan.Plan.{Plan as PlanValue}

-- the cell of the name of a cell of a plan is the cell
abbrev pub NamesFindCells : Type 0
NamesFindCells =
    (plan : PlanValue) (cell : Cell) → cell.0 < length plan.program.cells
    → cell_of (cell_name plan.program.cells cell.0) (cell_names plan.program.cells) ≡ Some cell

-- the name of the cell of a name is the name
abbrev pub CellsHaveNames : Type 0
CellsHaveNames =
    (plan : PlanValue) (name : List ℕ) (cell : Cell) → cell_of name (cell_names plan.program.cells) ≡ Some cell
    → cell_name plan.program.cells cell.0 ≡ name

-- a letter, a digit, `_`, `.`, `[` or `]`
abbrev pub is_name_byte : ℕ → Bool
is_name_byte b =
    (nat_le 48 b && nat_le b 57) || ((nat_le 65 b && nat_le b 90) || ((nat_le 97 b && nat_le b 122)
    || ((b == 95) || ((b == 46) || ((b == 91) || (b == 93))))))

-- A name of such bytes stands in a listing as it is.
abbrev pub PlainNamesStand : Type 0
PlainNamesStand = (name : List ℕ) → IsTrue (list_all is_name_byte name) → name_text name ≡ name

-- the bytes of numbers, each of its type, tell the numbers
abbrev pub BytesTellNumbers : Type 0
BytesTellNumbers =
    (scalars : List Scalar) (numbers : List ℤ) → length numbers ≡ length scalars → AreInRange scalars numbers
    → numbers_of scalars (bytes_of scalars numbers) ≡ numbers
