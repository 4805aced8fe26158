use Rattle.std.proofs.Common.{◌≡◌}
use Rattle.trick_crew_team.proofs.team.close.Given as goal
use Rattle.trick_turn.specs.Passes.{own}

abbrev pub invariant-loop : goal.invariant-loop
invariant-loop g l =
    (goal.iterator-loop g).can_next l.iterator' × (goal.iterator-loop g).is_finite l.iterator'
    × (own l.chief.pass ≡ own l.initial.chief.pass)
    × (l.chief.lock ≡ l.initial.chief.lock)
    × (l.faults ≡ l.initial.faults)
    × (l.share.hand.lock ≡ l.initial.share.hand.lock)
    × (l.share.bench.parts ≡ l.initial.share.bench.parts)
