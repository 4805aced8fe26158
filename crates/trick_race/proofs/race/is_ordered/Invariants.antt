use Rattle.std.proofs.Common.{ℕ, ◌<◌, get_or}
use Rattle.trick_model.specs.Acceptance.{Orders}
use Rattle.trick_model.specs.PlanOf.{plan_of}
use Rattle.trick_model.specs.declared.depends.Depends.{Depends}
use Rattle.trick_race.proofs.race.is_ordered.Given as goal

abbrev pub invariant-loop-pair : goal.invariant-loop-pair
invariant-loop-pair l = (i : ℕ) → i < l.pair-index → (d : Depends)
    → Orders (plan_of l.plan) (l.fn.a).0 (l.fn.b).0 (get_or l.pair-items i d) → ⊥
