use Rattle.std.proofs.Common.{rules}
use Rattle.trick_model.specs.Acceptance.{IsForward}
use Rattle.trick_model.specs.PlanOf.{plan_of}
use Rattle.trick_race.proofs.Firsts.{one_more}
use Rattle.trick_race.proofs.threads.backwards.Goals as goal

pub loop-pair-preserved : goal.loop-pair-preserved
loop-pair-preserved c =
    one_more (IsForward (plan_of c.args.plan.now)) c.as_slice-pair-items.result.now c.loop-pair.pair-index _
    c.loop-pair-test.true
    (c.is_forward.ensures.0 (search rules)) c.loop-pair.invariant
