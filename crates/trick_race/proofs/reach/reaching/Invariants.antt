use Rattle.std.proofs.Common.{count_by, not}
use Rattle.trick_model.specs.PlanOf.{plan_of}
use Rattle.trick_race.specs.Reached.{AreTaken}
use Rattle.trick_race.proofs.reach.reaching.Given as goal

abbrev pub invariant-loop-job : goal.invariant-loop-job
invariant-loop-job l = AreTaken (plan_of l.plan) l.accesses l.taken.items l.followed.items

abbrev pub decreases-loop-job : goal.decreases-loop-job
decreases-loop-job l = count_by not l.followed.items
