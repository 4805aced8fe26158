use Rattle.std.proofs.Common.{ℕ, ◌<◌}
use Rattle.trick_model.specs.Acceptance.{IsFine}
use Rattle.trick_model.specs.PlanOf.{plan_of}
use Rattle.trick_race.specs.Racers.{racer_at}
use Rattle.trick_race.proofs.race.first_other.Given as goal

abbrev pub invariant-loop-other : goal.invariant-loop-other
invariant-loop-other l = (k : ℕ) → l.place < k → k < l.other
    → IsFine (plan_of l.plan) (racer_at l.racers l.place) (racer_at l.racers k)
