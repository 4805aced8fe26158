use Rattle.std.proofs.Common.{ℕ, ◌<◌}
use Rattle.trick_model.specs.PlanOf.{plan_of}
use Rattle.trick_race.specs.Refusals.{HasOneWriter}
use Rattle.trick_race.proofs.writers.shared_writer.Given as goal

abbrev pub invariant-loop-cell : goal.invariant-loop-cell
invariant-loop-cell l = (c : ℕ) → c < l.cell → HasOneWriter (plan_of l.plan) c
