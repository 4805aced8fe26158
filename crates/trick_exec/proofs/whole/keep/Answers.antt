use Rattle.std.proofs.Common.{◌∙◌}
use Rattle.trick_exec.proofs.WholeLemmas.{waits_of}
use Rattle.trick_exec.proofs.whole.keep.Goals as goal
use Rattle.trick_model.specs.PlanOf.{plan_of}

pub returns-clause-waits : goal.returns-clause-waits
returns-clause-waits g c =
    c.in_ok-waits.ensures
    ∙ waits_of (plan_of c.args.accepted.now.plan) c.stations.result.now c.in_ok-equipment.equipment.course.ends.stations c.stations.ensures c.in_ok-equipment.ensures.course.ends.stations
