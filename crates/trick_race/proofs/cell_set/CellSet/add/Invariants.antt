use Rattle.std.proofs.Common.{◌≡◌, ℕ, ◌||◌, length, take}
use Rattle.trick_lang.specs.Access.{is_in}
use Rattle.trick_race.specs.Accesses.{has}
use Rattle.trick_race.proofs.cell_set.CellSet.add.Given as goal

-- the cells of the ranges up to here are in
abbrev pub invariant-loop-range : goal.invariant-loop-range
invariant-loop-range l = record {
  size : length l.self ≡ length l.initial.self;
  marked : (c : ℕ) → has l.self c ≡ (is_in (take l.range-index l.ranges) c || has l.initial.self c);
}
