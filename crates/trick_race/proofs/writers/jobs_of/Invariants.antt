use Rattle.std.proofs.Common.{◌≡◌, ◌&&◌, ◌==◌, map, take}
use Rattle.trick_lang.specs.declared.class.Class.TheVariants as class
use Rattle.trick_lang.specs.declared.job.Job.{Job}
use Rattle.trick_model.specs.Order.{rank}
use Rattle.trick_race.proofs.writers.jobs_of.Given as goal

abbrev pub invariant-loop-job : goal.invariant-loop-job
invariant-loop-job l =
    l.set.items ≡ map (λ (job : Job). (rank job.class == rank class.Scheduled) && (job.thread == l.fn.thread.number))
    (take l.job-index l.jobs)
