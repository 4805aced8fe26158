use Rattle.std.proofs.Common.{◌≡◌}
use Rattle.trick_crew_team.proofs.share.step_each.Given as goal

abbrev pub invariant-loop-thread : goal.invariant-loop-thread
invariant-loop-thread g l = (l.hand.lock ≡ l.initial.hand.lock) × (l.bench.parts ≡ l.initial.bench.parts)
