use Rattle.std.proofs.Common.{ℕ, ◌<◌}
use Rattle.trick_model.specs.Acceptance.{IsOnMain}
use Rattle.trick_model.specs.PlanOf.{plan_of}
use Rattle.trick_race.proofs.threads.class_on_child.Given as goal

abbrev pub invariant-loop-number : goal.invariant-loop-number
invariant-loop-number l = (k : ℕ) → k < l.number → IsOnMain (plan_of l.plan) k
