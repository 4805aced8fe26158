use Rattle.std.proofs.Common.{ℕ, ◌<◌}
use Rattle.trick_model.specs.PlanOf.{plan_of}
use Rattle.trick_race.specs.Racers.{IsFineAt}
use Rattle.trick_race.proofs.race.first_pair.Given as goal

abbrev pub invariant-loop-place : goal.invariant-loop-place
invariant-loop-place l = (k : ℕ) → k < l.place → IsFineAt (plan_of l.plan) l.racers k
