use Rattle.std.proofs.Common.{◌∙◌, ap}
use Rattle.trick_model.proofs.PlanJobs.{queue_below, queue_is}
use Rattle.trick_model.proofs.plan.Plan.jobs_of_class.Goals as goal
use Rattle.trick_model.specs.Valid.{ids}

pub returns-clause-jobs : goal.returns-clause-jobs
returns-clause-jobs c =
    let plan = c.args.self.now in
    ap ids (c.as_slice.ensures ∙ c.queue.ensures) ∙ queue_is plan.queues plan.program.jobs c.args.class plan.queues_right

pub returns-clause-there : goal.returns-clause-there
returns-clause-there c =
    let plan = c.args.self.now in
    queue_below plan.program.jobs c.args.class c.as_slice.result.now
    (ap ids (c.as_slice.ensures ∙ c.queue.ensures) ∙ queue_is plan.queues plan.program.jobs c.args.class plan.queues_right)
