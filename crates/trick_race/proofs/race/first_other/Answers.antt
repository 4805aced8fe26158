use Rattle.std.proofs.Common.{◌≡◌, inl, inr, subst, arith}
use Rattle.std.proofs.lemmas.Bool.{cases_lt}
use Rattle.trick_model.specs.Acceptance.{IsFine}
use Rattle.trick_model.specs.PlanOf.{plan_of}
use Rattle.trick_race.specs.Racers.{racer_at}
use Rattle.trick_race.proofs.race.first_other.Goals as goal

pub loop-other-preserved : goal.loop-other-preserved
loop-other-preserved c k low high = elim (cases_lt k c.loop-other.other) [
  | inl less ↦ c.loop-other.invariant k low less
  | inr more ↦
      let same : c.loop-other.other ≡ k = omega arith in
      subst (λ n. IsFine (plan_of c.args.plan.now) (racer_at c.args.racers.now c.args.place)
      (racer_at c.args.racers.now n)) same c.in_default.ensures
]

pub returns : goal.returns
returns c j low there = c.loop-other.invariant j low (omega arith)
