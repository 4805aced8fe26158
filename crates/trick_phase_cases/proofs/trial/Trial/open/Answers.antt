use Rattle.std.proofs.Common.{subst}
use Rattle.trick_model.specs.declared.plan.Plan.{Plan}
use Rattle.trick_queue.specs.Queue.{IsFor}
use Rattle.trick_phase_cases.proofs.trial.Trial.open.Goals as goal

pub open_with-done-requires-clause-due : goal.open_with-done-requires-clause-due
open_with-done-requires-clause-due c on =
    let plan = c.args.accepted.now.plan in
    let queues = c.in_ok-queues.queues in
    let own : IsFor plan queues = subst (λ (x : Plan). IsFor x queues) c.plan-plan.ensures.plan c.in_ok-queues.ensures.own in
    c.due.ensures plan on c.args.tic own c.in_ok-queues.ensures.asked
