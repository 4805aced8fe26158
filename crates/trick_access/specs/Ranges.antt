-- Ranges of cells that are in order and as long as can be.
use Rattle.std.specs.Prelude.{◌≡◌, ℕ, ◌+◌, Bool, true, ◌&&◌, nat_le, nat_lt, IsTrue, List, [], ◌∷◌}
use Rattle.trick_lang.specs.Access.{is_in}
use Rattle.trick_lang.specs.declared.range.CellRange.{CellRange}

-- the ranges are in order, from one number on and below another, with a cell between each two
abbrev pub are_sorted : ℕ → ℕ → List CellRange → Bool
are_sorted from cells [] = true
are_sorted from cells (r ∷ rs) =
    (nat_le from (r.first).0 && (nat_le (r.first).0 (r.last).0 && nat_lt (r.last).0 cells))
    && are_sorted ((r.last).0 + 2) cells rs

-- The cells of some ranges, of so many cells, as ranges that are in order, do not overlap and are as
-- long as can be.
pub record AreCellsOf (cells : ℕ) (given ranges : List CellRange) : Type 0 where
  pub sorted : IsTrue (are_sorted 0 cells ranges)
  pub exact : (c : ℕ) → is_in ranges c ≡ is_in given c
