use Rattle.std.proofs.Common.{◌≡◌}
use Rattle.trick_hall_tests.proofs.drive.find_busy.Given as goal

abbrev pub invariant-loop : goal.invariant-loop
invariant-loop g l = l.worker.bench.parts ≡ l.initial.worker.bench.parts
