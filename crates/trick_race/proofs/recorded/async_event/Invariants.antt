use Rattle.std.proofs.Common.{ℕ, ◌<◌, get_or}
use Rattle.trick_model.specs.Acceptance.{IsDecidable}
use Rattle.trick_model.specs.Plan.{Event}
use Rattle.trick_model.specs.PlanOf.{plan_of}
use Rattle.trick_race.proofs.recorded.async_event.Given as goal

abbrev pub invariant-loop-number : goal.invariant-loop-number
invariant-loop-number l = (i : ℕ) → i < l.number → (d : Event)
    → IsDecidable (plan_of l.plan) (get_or (plan_of l.plan).events i d)
