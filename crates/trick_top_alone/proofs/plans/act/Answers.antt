use Rattle.std.proofs.Common.{ap}
use Rattle.trick_top_alone.proofs.ActedLemmas.{acted_checked, acted_listed}
use Rattle.trick_top_alone.proofs.plans.act.Goals as goal
use Rattle.trick_top_alone.specs.Words.{aim_of_task}

pub returns-in-Check : goal.returns-in-Check
returns-in-Check g c =
    acted_checked c.args.shelf.now c.args.accepted_plan.plan _ _ _ _ (g.met.F.Shelf.called_none c.args.shelf.now) c.plan.ensures.plan
    (aim_of_task c.args.task.now) (ap aim_of_task c.in-Check.is) c.accepted.ensures

pub returns : goal.returns
returns g c =
    acted_listed c.args.shelf.now c.args.accepted_plan.plan _ _ _ _ (g.met.F.Shelf.called_none c.args.shelf.now) c.plan-in-List.ensures.plan
    (aim_of_task c.args.task.now) (ap aim_of_task c.in-List.is) c.listed.ensures
