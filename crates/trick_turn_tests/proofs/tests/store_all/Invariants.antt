use Rattle.trick_turn.specs.Passes.{IsSamePass}
use Rattle.trick_turn_tests.proofs.tests.store_all.Given as goal

abbrev pub invariant-loop-number : goal.invariant-loop-number
invariant-loop-number g l = IsSamePass l.initial.hand.pass l.hand.pass
