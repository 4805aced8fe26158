use Rattle.std.proofs.Common.{ℕ, ◌<◌, get_or}
use Rattle.trick_model.specs.Acceptance.{IsNamedRight}
use Rattle.trick_model.specs.PlanOf.{plan_of}
use Rattle.trick_model.specs.declared.thread.Thread.{Thread}
use Rattle.trick_race.proofs.threads.no_thread.Given as goal

abbrev pub invariant-loop-thread : goal.invariant-loop-thread
invariant-loop-thread l = (i : ℕ) → i < l.thread-index → (d : Thread)
    → IsNamedRight (plan_of l.plan) (get_or l.thread-items i d)
