use Rattle.std.proofs.Common.{◌≡◌, ℕ, ◌&&◌, ◌||◌, nat_le, nat_lt, length}
use Rattle.trick_race.specs.Accesses.{has}
use Rattle.trick_race.proofs.cell_set.mark.Given as goal

-- the cells of the range up to here are marked
abbrev pub invariant-loop-cell : goal.invariant-loop-cell
invariant-loop-cell l = record {
  size : length l.marks.items ≡ length l.initial.marks.items;
  marked : (c : ℕ) → has l.marks.items c ≡ ((nat_le (l.fn.range.first).0 c && nat_lt c l.cell) || has
      l.initial.marks.items c);
}
