use Rattle.trick_wire.specs.Ends.{IsSamePutter, IsSameTaker}
use Rattle.trick_wire_tests.proofs.tests.EchoCaller.talk.Given as goal

abbrev pub invariant-loop : goal.invariant-loop
invariant-loop g l = IsSameTaker l.initial.ends.inbox l.ends.inbox × IsSamePutter l.initial.ends.outbox l.ends.outbox × IsSameTaker l.initial.ends.causes l.ends.causes
