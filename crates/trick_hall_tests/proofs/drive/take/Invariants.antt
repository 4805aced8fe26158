use Rattle.std.proofs.Common.{◌≡◌}
use Rattle.trick_hall_tests.proofs.drive.take.Given as goal

abbrev pub invariant-loop : goal.invariant-loop
invariant-loop g l = (goal.iterator-loop g).can_next l.iterator' × (goal.iterator-loop g).is_finite l.iterator' × (l.worker.bench.parts ≡ l.initial.worker.bench.parts)
