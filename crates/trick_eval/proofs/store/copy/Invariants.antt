use Rattle.std.proofs.Common.{◌≡◌, ℕ, IsTrue, drop, false, length, pos, slice_index_or}
use Rattle.trick_eval.proofs.store.copy.Given as goal
use Rattle.trick_access.specs.Ranges.{are_sorted}
use Rattle.trick_lang.specs.Access.{is_in}

-- the cells that are not in the ranges that are left are copied
abbrev pub invariant-loop-range : goal.invariant-loop-range
invariant-loop-range g l = record {
  copied : (c : ℕ) → IsTrue (is_in l.ranges c) → is_in (drop l.range-index l.ranges) c ≡ false → slice_index_or l.into.items c (pos 0) ≡ slice_index_or (g.M.Cells.numbers l.from) c (pos 0);
  sorted : (k : ℕ) × IsTrue (are_sorted k (length (g.M.Cells.numbers l.from)) (drop l.range-index l.ranges));
  length : length l.into.items ≡ length l.fn.into.items;
}
