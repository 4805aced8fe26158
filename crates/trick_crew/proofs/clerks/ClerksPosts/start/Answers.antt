use Rattle.std.proofs.Common.{subst}
use Rattle.std.specs.Arc.{arc_value}
use Rattle.trick_crew.proofs.Needs.{nothing_starts}
use Rattle.trick_crew.proofs.clerks.ClerksPosts.start.Goals as goal
use Rattle.trick_crew.specs.InHand.{plan_for}
use Rattle.trick_model.specs.PlanOf.{plan_of}
use Rattle.trick_post_work.specs.Work.{CanStart}

pub unreachable-requires : goal.unreachable-requires
unreachable-requires g c =
    let nobody = c.in-Nobody.field-0 in
    nothing_starts (arc_value nobody.held.accepted).plan c.args.thread c.args.taken.now c.args.work nobody.none
    (subst (λ clerks. CanStart (plan_of (plan_for clerks)) c.args.thread c.args.taken.now c.args.work) c.in-Nobody.is c.requires.right)
