-- A memory that nobody else sees, and what is written of it into another one.
use Rattle.std.specs.List.{slice_index_or}
use Rattle.std.specs.Prelude.{◌≡◌, ℕ, ◌<◌, ◌≤◌, ℤ, pos, Bool, cond, List, length, map, replicate}
use Rattle.trick_lang.specs.Effect.{scalars_of}
use Rattle.trick_lang.specs.declared.cells.Cell.{Cell}
use Rattle.trick_lang.specs.declared.program.Program.{Program}
use Rattle.trick_lang.specs.declared.scalar.Scalar.{Scalar}
use Rattle.trick_model.specs.ValidState.{AreInRange}

-- a number for each cell, and its type
pub record Numbers : Type 0 where
  pub scalars : List Scalar
  pub numbers : List ℤ

-- Each cell has a number, which is one of its type. There are at most 65,536 cells.
pub record AreStored (scalars : List Scalar) (numbers : List ℤ) : Type 0 where
  pub numbered : length numbers ≡ length scalars
  pub few : length scalars ≤ 65536
  pub in_range : AreInRange scalars numbers

-- all cells of a program are 0
abbrev pub cleared : Program → Numbers
cleared p = record { scalars = scalars_of p.cells; numbers = replicate (length p.cells) (pos 0) }

-- the numbers of cells
abbrev pub cell_ids : List Cell → List ℕ
cell_ids cells = map (λ (cell : Cell). cell.0) cells

-- The chosen cells of a memory have the numbers of another one now, and all others what they had.
pub record IsWritten (chosen : ℕ → Bool) (others old new : List ℤ) : Type 0 where
  pub many : length new ≡ length old
  pub at : (c : ℕ) → c < length old
      → slice_index_or new c (pos 0) ≡ cond (chosen c) (slice_index_or others c (pos 0)) (slice_index_or old c (pos 0))
