use Rattle.std.proofs.Common.{◌≡◌, [], replicate}
use Rattle.trick_check_order.proofs.rounds.empty_rounds.Given as goal

abbrev pub invariant-loop-round : goal.invariant-loop-round
invariant-loop-round l = l.found.items ≡ replicate l._round []
