-- What a memory holds, and how its cells are found.
use Rattle.std.specs.Prelude.{◌≡◌, ℕ, ◌≤◌, ℤ, pos, List, length, replicate, Option, option_map}
use Rattle.trick_lang.specs.Effect.{scalars_of}
use Rattle.trick_lang.specs.Wrap.{AreInRange}
use Rattle.trick_lang.specs.declared.cells.Cell.{Cell}
use Rattle.trick_lang.specs.declared.scalar.Scalar.{Scalar}
use Rattle.trick_lang.specs.declared.variable.Variable.{Variable}
use Rattle.trick_memory.specs.Packed.{bytes_of, numbers_of, offsets_from}
use Rattle.trick_model.specs.Names.{find_name}
use Rattle.trick_model.specs.Valid.{cell_names}

-- a number for each cell, by cell, with the full name of the cell and its type
pub record Stored : Type 0 where
  pub names : List (List ℕ)
  pub scalars : List Scalar
  pub numbers : List ℤ

-- Each cell has a number, which is one of its type. There are at most 65,536 cells.
pub record IsStored (names : List (List ℕ)) (scalars : List Scalar) (numbers : List ℤ) : Type 0 where
  pub named : length names ≡ length scalars
  pub numbered : length numbers ≡ length scalars
  pub few : length scalars ≤ 65536
  pub in_range : AreInRange scalars numbers

-- What is held as bytes is stored: the bytes are those of the numbers that they tell, and it is known
-- where those of each cell begin.
pub record IsHeld (names : List (List ℕ)) (scalars : List Scalar) (offsets bytes : List ℕ) : Type 0 where
  pub stored : IsStored names scalars (numbers_of scalars bytes)
  pub whole : bytes ≡ bytes_of scalars (numbers_of scalars bytes)
  pub placed : offsets ≡ offsets_from 0 scalars

-- the memory of these cells in which each number is 0
abbrev pub zeros : List Variable → Stored
zeros cells = record {
  names = cell_names cells;
  scalars = scalars_of cells;
  numbers = replicate (length cells) (pos 0);
}

-- the cell of a full name
abbrev pub cell_of : List ℕ → List (List ℕ) → Option Cell
cell_of name names = option_map (λ k. record { 0 = k }) (find_name name names)
