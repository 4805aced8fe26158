use Rattle.std.proofs.Common.{◌≡◌, take}
use Rattle.std.specs.Prelude.{filter}
use Rattle.trick_model.specs.Plan.{is_on_scheduled}
use Rattle.trick_model.specs.Valid.{ids}
use Rattle.trick_queue.proofs.jobs.queue.Given as goal

-- those of the first jobs that are on scheduled threads
abbrev pub invariant-loop-job : goal.invariant-loop-job
invariant-loop-job l = ids l.jobs.items ≡ filter (is_on_scheduled l.plan.program.jobs l.plan.threads) (take l.job-index (ids l.all))
