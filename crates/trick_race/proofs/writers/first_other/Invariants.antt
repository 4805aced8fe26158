use Rattle.std.proofs.Common.{ℕ, ◌<◌, get_or}
use Rattle.trick_model.specs.Acceptance.{IsWrittenOnce}
use Rattle.trick_model.specs.PlanOf.{plan_of}
use Rattle.trick_model.specs.declared.thread.Thread.{Thread}
use Rattle.trick_race.proofs.writers.first_other.Given as goal

abbrev pub invariant-loop-place : goal.invariant-loop-place
invariant-loop-place l = (i : ℕ) → i < l.place → (d : Thread)
    → IsWrittenOnce (plan_of l.plan) l.fn.thread (get_or l.plan.threads i d) l.cell
