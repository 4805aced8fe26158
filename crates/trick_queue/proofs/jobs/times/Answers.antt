use Rattle.std.proofs.Common.{subst, sym}
use Rattle.trick_cycle.specs.Due.{IsInRange}
use Rattle.trick_lang.specs.declared.job.Job.{Job}
use Rattle.trick_queue.proofs.Queued.{scheduled_there, times_in_range}
use Rattle.trick_queue.proofs.jobs.times.Goals as goal

pub returns-clause-range : goal.returns-clause-range
returns-clause-range c =
    subst (λ (job : Job). IsInRange (record { start = job.start; cycle = job.cycle; stop = job.stop })) (sym c.job-found.ensures)
    (times_in_range c.args.plan.now.program.jobs c.args.job.0 c.args.plan.now.program.right_times c.requires)

pub job-found-requires : goal.job-found-requires
job-found-requires c = scheduled_there c.args.plan.now.program.jobs c.args.job.0 c.requires
