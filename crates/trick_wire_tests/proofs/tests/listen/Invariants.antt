use Rattle.trick_wire.specs.Ends.{IsSameTaker}
use Rattle.trick_wire_tests.proofs.tests.listen.Given as goal

abbrev pub invariant-loop : goal.invariant-loop
invariant-loop g l = IsSameTaker l.initial.inbox l.inbox
