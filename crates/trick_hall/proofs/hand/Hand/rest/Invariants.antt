use Rattle.std.proofs.Common.{◌≡◌}
use Rattle.trick_hall_kept.specs.Telling.{HasLooked}
use Rattle.trick_hall.proofs.hand.Hand.rest.Given as goal

abbrev pub invariant-loop : goal.invariant-loop
invariant-loop g l = (goal.iterator-loop g).can_next l.iterator' × (goal.iterator-loop g).is_finite l.iterator' × (l.self.lock ≡ l.initial.self.lock)
    × HasLooked l.initial.self.pass l.self.pass
