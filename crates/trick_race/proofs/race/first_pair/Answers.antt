use Rattle.std.proofs.Common.{below_more, arith}
use Rattle.trick_model.specs.PlanOf.{plan_of}
use Rattle.trick_race.proofs.Racing.{none_races, race_is}
use Rattle.trick_race.specs.Racers.{IsFineAt}
use Rattle.trick_race.proofs.race.first_pair.Goals as goal

pub loop-place-preserved : goal.loop-place-preserved
loop-place-preserved c = below_more (IsFineAt (plan_of c.args.plan.now) c.args.racers.now) c.loop-place.place
    c.loop-place.invariant c.in_default.ensures

pub returns-in-Some : goal.returns-in-Some
returns-in-Some c =
    race_is (plan_of c.args.plan.now) c.args.racers.now c.loop-place.place c.in-Some.other.0 c.in-Some.tic
    c.requires.racers (omega arith)
    c.loop-place.invariant c.in-Some.ensures

pub returns : goal.returns
returns c = none_races (plan_of c.args.plan.now) c.args.racers.now c.requires.racers
    (λ i there. c.loop-place.invariant i (omega arith))
