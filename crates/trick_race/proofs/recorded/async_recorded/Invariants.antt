use Rattle.std.proofs.Common.{ℕ, ◌<◌, get_or}
use Rattle.trick_model.specs.PlanOf.{plan_of}
use Rattle.trick_model.specs.declared.group.Group.{Group}
use Rattle.trick_race.specs.Refusals.{IsGroupRecordable}
use Rattle.trick_race.proofs.recorded.async_recorded.Given as goal

abbrev pub invariant-loop-number : goal.invariant-loop-number
invariant-loop-number l = (i : ℕ) → i < l.number → (d : Group)
    → IsGroupRecordable (plan_of l.plan) (get_or l.plan.groups i d)
