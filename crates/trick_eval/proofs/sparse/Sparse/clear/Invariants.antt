use Rattle.std.proofs.Common.{◌≡◌, length, drop}
use Rattle.trick_eval.specs.Sparse.{AreAmong}
use Rattle.trick_eval.proofs.sparse.Sparse.clear.Given as goal

-- the places that are left are those that have a number
abbrev pub invariant-loop-i : goal.invariant-loop-i
invariant-loop-i l = record {
  among : AreAmong (drop l.i l.self-inside.places.items) l.self-inside.numbers.items;
  places : l.self-inside.places ≡ l.initial.self-inside.places;
  length : length l.self-inside.numbers.items ≡ length l.initial.self-inside.numbers.items;
}
