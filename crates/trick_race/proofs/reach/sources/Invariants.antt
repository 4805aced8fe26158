use Rattle.std.proofs.Common.{◌≡◌, ℕ, ◌<◌, length}
use Rattle.trick_model.specs.Plan.{is_on_async}
use Rattle.trick_race.specs.Accesses.{has}
use Rattle.trick_race.proofs.reach.sources.Given as goal

abbrev pub invariant-loop-job : goal.invariant-loop-job
invariant-loop-job l = record {
  many : length l.set.items ≡ l.job-index;
  sources : (k : ℕ) → k < l.job-index → has l.set.items k ≡ is_on_async l.plan.program.jobs l.plan.threads k;
}
