use Rattle.trick_model.specs.Acceptance.{Orders}
use Rattle.trick_model.specs.PlanOf.{plan_of}
use Rattle.trick_model.specs.declared.depends.Depends.{Depends}
use Rattle.trick_race.proofs.Firsts.{one_more, refuted}
use Rattle.trick_race.proofs.race.is_ordered.Goals as goal

pub loop-pair-preserved : goal.loop-pair-preserved
loop-pair-preserved c =
    one_more (λ (pair : Depends). Orders (plan_of c.args.plan.now) c.args.a.0 c.args.b.0 pair → ⊥)
    c.as_slice-pair-items.result.now c.loop-pair.pair-index _ c.loop-pair-test.true
    (refuted c.orders.result c.if-orders.false c.orders.ensures.1) c.loop-pair.invariant
