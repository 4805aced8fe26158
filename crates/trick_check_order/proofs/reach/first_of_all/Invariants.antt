use Rattle.std.proofs.Common.{ℕ, ◌<◌}
use Rattle.trick_check_order.proofs.reach.first_of_all.Given as goal
use Rattle.trick_check_order.specs.Calls.{ReachesItself}

abbrev pub invariant-loop-method : goal.invariant-loop-method
invariant-loop-method l = (a : ℕ) → a < l.method → ReachesItself l.calls a → ⊥
