use Rattle.std.proofs.Common.{arith, ap, ◌<◌, length}
use Rattle.std.proofs.lemmas.Grind.{common_steps}
use Rattle.trick_chkpt_printer.proofs.Threads.{next_job}
use Rattle.trick_chkpt_printer.proofs.plan_jobs.jobs_of.Goals as goal
use Rattle.trick_chkpt_printer.proofs.plan_jobs.jobs_of.Goals.{then-job-thread+in_ok-push, else-job-thread}
use Rattle.trick_model.specs.Plan.{no_job}

pub loop-k-preserved : goal.loop-k-preserved
loop-k-preserved c =
    let here : c.loop-k.k < length c.args.program.now.jobs = omega (arith, ap length c.as_slice-job-items.ensures) in
    let next = next_job c.args.program.now.jobs c.args.thread.number c.loop-k.k no_job here in
    elim c.if-job-thread.branch [
      | then-job-thread+in_ok-push w ↦ record { jobs = grind (arith, common_steps, next); there = grind (arith, common_steps) }
      | else-job-thread w ↦ record { jobs = grind (arith, common_steps, next); there = grind (arith, common_steps) }
    ]
