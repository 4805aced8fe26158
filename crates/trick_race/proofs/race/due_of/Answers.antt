use Rattle.std.proofs.Common.{◌≡◌, subst}
use Rattle.trick_cycle.specs.Due.{IsInRange}
use Rattle.trick_lang.specs.declared.job.Job.{Job}
use Rattle.trick_race.proofs.Pairs.{due_in_range}
use Rattle.std.proofs.Common.{sym, rules}
use Rattle.trick_model.specs.Plan.{job_at}
use Rattle.trick_race.proofs.race.due_of.Goals as goal

pub returns-clause-in_range : goal.returns-clause-in_range
returns-clause-in_range c =
    let is : c.job-found.result.now ≡ job_at c.args.plan.now.program.jobs c.args.job.0 = search rules in
    subst (λ (job : Job). IsInRange (record { start = job.start; cycle = job.cycle; stop = job.stop })) (sym is)
    (due_in_range c.args.plan.now c.args.plan.now.jobs c.args.job.0 c.requires)
