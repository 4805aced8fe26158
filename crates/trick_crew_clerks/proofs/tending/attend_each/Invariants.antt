use Rattle.std.proofs.Common.{◌≡◌, ℕ, length}
use Rattle.trick_crew_clerks.proofs.Tended.{UpTo}
use Rattle.trick_crew_clerks.proofs.tending.attend_each.Given as goal
use Rattle.trick_crew_clerks.specs.Tending.{IsTended}

abbrev pub invariant-loop-index : goal.invariant-loop-index
invariant-loop-index g l = record {
  many : length l.here.items ≡ length l.fn.here.items;
  tended : UpTo (λ before now. IsTended (λ (n : ℕ). n ≡ l.thread) before now) l.index l.fn.here.items l.here.items;
}
