use Rattle.trick_check_order.proofs.lower.first_level.Given as goal
use Rattle.trick_check_order.specs.Ranked.{FallsBefore}

abbrev pub invariant-loop-method : goal.invariant-loop-method
invariant-loop-method l = FallsBefore l.calls l.ranks l.method
