use Rattle.std.proofs.Common.{◌≡◌, drop, max}
use Rattle.trick_check_order.proofs.rounds.round_behind.Given as goal
use Rattle.trick_check_order.specs.Rounds.{round_behind}

-- the round so far, and that after the methods that are left, give that after all
abbrev pub invariant-loop-method : goal.invariant-loop-method
invariant-loop-method l = max l.round (round_behind l.rounds (drop l.method-index l.methods)) ≡ round_behind l.rounds l.methods
