use Rattle.std.proofs.Common.{◌≡◌, ℕ, ◌<◌, ◌⊎◌, IsTrue, length}
use Rattle.trick_race.specs.Accesses.{Feeds, has}
use Rattle.trick_race.proofs.reach.take_fed.Given as goal

abbrev pub invariant-loop-other : goal.invariant-loop-other
invariant-loop-other l = record {
  size : length l.taken.items ≡ length l.initial.taken.items;
  kept : (k : ℕ) → IsTrue (has l.initial.taken.items k) → IsTrue (has l.taken.items k);
  fed : (k : ℕ) → k < l.other → Feeds l.accesses l.job k → IsTrue (has l.taken.items k);
  only : (k : ℕ) → IsTrue (has l.taken.items k) → IsTrue (has l.initial.taken.items k) ⊎ Feeds l.accesses l.job k;
}
