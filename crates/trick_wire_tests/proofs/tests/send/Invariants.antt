use Rattle.trick_wire.specs.Ends.{IsSamePutter}
use Rattle.trick_wire_tests.proofs.tests.send.Given as goal

abbrev pub invariant-loop : goal.invariant-loop
invariant-loop g l = IsSamePutter l.initial.outbox l.outbox
