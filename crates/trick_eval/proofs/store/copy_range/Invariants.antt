use Rattle.std.proofs.Common.{◌≡◌, ℕ, ◌<◌, ◌≤◌, length, pos, slice_index_or}
use Rattle.trick_eval.proofs.store.copy_range.Given as goal

abbrev pub invariant-loop-cell : goal.invariant-loop-cell
invariant-loop-cell g l = record {
  copied : (c : ℕ) → (l.fn.range.first).0 ≤ c → c < l.cell → slice_index_or l.into.items c (pos 0) ≡ slice_index_or (g.M.Cells.numbers l.from) c (pos 0);
  before : (c : ℕ) → c < (l.fn.range.first).0 → slice_index_or l.into.items c (pos 0) ≡ slice_index_or l.fn.into.items c (pos 0);
  after : (c : ℕ) → l.cell ≤ c → slice_index_or l.into.items c (pos 0) ≡ slice_index_or l.fn.into.items c (pos 0);
  length : length l.into.items ≡ length l.fn.into.items;
}
