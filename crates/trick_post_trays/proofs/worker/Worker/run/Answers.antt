use Rattle.std.proofs.Common.{List, length, subst, sym}
use Rattle.trick_lang.specs.declared.job.JobId.{JobId}
use Rattle.trick_post_trays.proofs.Jobs.{scheduled_there}
use Rattle.trick_post_trays.specs.Trays.{AreThere}
use Rattle.trick_post_trays.proofs.worker.Worker.run.Goals as goal

pub run_due-requires-clause-jobs : goal.run_due-requires-clause-jobs
run_due-requires-clause-jobs c =
    subst (λ (jobs : List JobId). AreThere jobs (length c.args.plan.now.program.jobs)) (sym c.as_slice.ensures)
    (scheduled_there c.args.plan.now c.args.calendar.now.jobs c.requires.calendar.scheduled)
