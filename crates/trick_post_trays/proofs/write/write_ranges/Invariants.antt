use Rattle.std.proofs.Common.{◌≡◌, ℕ, IsTrue, drop, length, take}
use Rattle.trick_access.specs.Ranges.{are_sorted}
use Rattle.trick_lang.specs.Access.{is_in}
use Rattle.trick_post_trays.specs.Scratch.{IsWritten}
use Rattle.trick_post_trays.proofs.write.write_ranges.Given as goal

-- the cells of the first ranges are written
abbrev pub invariant-loop-range : goal.invariant-loop-range
invariant-loop-range g l = record {
  numbers : IsWritten (is_in (take l.range-index l.ranges)) l.from.numbers (g.M.Cells.numbers l.fn.into) (g.M.Cells.numbers l.into);
  scalars : g.M.Cells.scalars l.into ≡ g.M.Cells.scalars l.fn.into;
  sorted : (k : ℕ) × IsTrue (are_sorted k (length (g.M.Cells.numbers l.fn.into)) (drop l.range-index l.ranges));
}
