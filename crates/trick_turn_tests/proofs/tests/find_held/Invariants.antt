use Rattle.trick_turn.specs.Passes.{IsSamePass}
use Rattle.trick_turn_tests.proofs.tests.find_held.Given as goal

abbrev pub invariant-loop : goal.invariant-loop
invariant-loop g l = (goal.iterator-loop g).can_next l.iterator' × (goal.iterator-loop g).is_finite l.iterator' × IsSamePass l.initial.hand.pass l.hand.pass
