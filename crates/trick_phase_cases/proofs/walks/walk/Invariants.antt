use Rattle.std.proofs.Common.{◌≡◌}
use Rattle.trick_queue.specs.Queue.{IsFor}
use Rattle.trick_phase_cases.proofs.walks.walk.Given as goal

abbrev pub invariant-loop-ask : goal.invariant-loop-ask
invariant-loop-ask l = record {
  own : IsFor l.plan l.queues;
  from : l.queues.from ≡ l.from;
}
