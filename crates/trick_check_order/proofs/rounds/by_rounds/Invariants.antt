use Rattle.std.proofs.Common.{◌≡◌}
use Rattle.trick_check_order.proofs.rounds.by_rounds.Given as goal
use Rattle.trick_check_order.specs.Calls.{first_rounds}

abbrev pub invariant-loop-round : goal.invariant-loop-round
invariant-loop-round l = l.found.items ≡ first_rounds l.calls l.round-index
