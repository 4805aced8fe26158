use Rattle.std.proofs.Common.{subst, sym}
use Rattle.std.specs.Prelude.{All, ◌<◌, length}
use Rattle.trick_lang.specs.declared.job.JobId.{JobId}
use Rattle.trick_model.specs.PlanOf.{plan_of}
use Rattle.trick_model.specs.declared.plan.Plan.{Plan}
use Rattle.trick_phase_jobs.proofs.DueJobs.{due_jobs}
use Rattle.trick_phase_jobs.proofs.one_phase.OnePhasePhases.tic.Goals as goal

pub run_jobs-requires-clause-jobs : goal.run_jobs-requires-clause-jobs
run_jobs-requires-clause-jobs g c =
    subst (λ (plan : Plan). All (λ (job : JobId). job.0 < length plan.program.jobs) c.args.due.now) (sym c.plan.ensures.plan)
    (due_jobs (plan_of c.args.accepted.now.plan) c.args.on.now c.args.tic c.args.due.now c.requires.given.right)
