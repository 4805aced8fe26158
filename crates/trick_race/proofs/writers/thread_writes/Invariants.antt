use Rattle.std.proofs.Common.{◌≡◌, ℕ, ◌<◌, [], get_or, length}
use Rattle.trick_model.specs.Acceptance.{may_write_on}
use Rattle.trick_model.specs.PlanOf.{plan_of}
use Rattle.trick_model.specs.declared.thread.Thread.{Thread}
use Rattle.trick_race.specs.Accesses.{has}
use Rattle.trick_race.proofs.writers.thread_writes.Given as goal

abbrev pub invariant-loop-place : goal.invariant-loop-place
invariant-loop-place l = record {
  many : length l.sets.items ≡ l.place;
  exact : (place : ℕ) → place < l.place → (thread : Thread) (cell : ℕ)
      → has (get_or l.sets.items place []) cell ≡ may_write_on (plan_of l.plan)
      (get_or l.plan.threads place thread) cell;
}
