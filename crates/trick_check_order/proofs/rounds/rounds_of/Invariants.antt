use Rattle.std.proofs.Common.{take}
use Rattle.trick_check_order.proofs.rounds.rounds_of.Given as goal
use Rattle.trick_check_order.specs.Rounds.{AreRoundsOf}

abbrev pub invariant-loop-method : goal.invariant-loop-method
invariant-loop-method l = AreRoundsOf l.calls (take l.method-index l.order) l.rounds.items
