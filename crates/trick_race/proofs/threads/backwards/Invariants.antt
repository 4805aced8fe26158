use Rattle.std.proofs.Common.{ℕ, ◌<◌, get_or}
use Rattle.trick_model.specs.Acceptance.{IsForward}
use Rattle.trick_model.specs.PlanOf.{plan_of}
use Rattle.trick_model.specs.declared.depends.Depends.{Depends}
use Rattle.trick_race.proofs.threads.backwards.Given as goal

abbrev pub invariant-loop-pair : goal.invariant-loop-pair
invariant-loop-pair l = (i : ℕ) → i < l.pair-index → (d : Depends)
    → IsForward (plan_of l.plan) (get_or l.pair-items i d)
