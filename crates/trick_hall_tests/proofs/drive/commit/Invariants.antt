use Rattle.trick_eval.specs.Bench.{IsEvaluated, IsFilled, IsFor}
use Rattle.trick_hall_tests.proofs.drive.commit.Given as goal

abbrev pub invariant-loop : goal.invariant-loop
invariant-loop g l = (goal.iterator-loop g).can_next l.iterator' × (goal.iterator-loop g).is_finite l.iterator' × IsFor l.accepted.plan.program l.worker.bench.parts
    × IsFilled l.accepted.plan.program l.worker.bench × IsEvaluated l.accepted.plan.program l.worker.bench
