use Rattle.std.proofs.Common.{ℕ, ◌<◌}
use Rattle.trick_race.specs.Reached.{IsWaiting}
use Rattle.trick_race.proofs.reach.next.Given as goal

abbrev pub invariant-loop-job : goal.invariant-loop-job
invariant-loop-job l = (k : ℕ) → k < l.job → IsWaiting l.taken l.followed k → ⊥
