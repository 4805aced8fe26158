use Rattle.std.proofs.Common.{None, refl}
use Rattle.std.specs.Arc.{arc_value}
use Rattle.trick_model.specs.PlanOf.{plan_of}
use Rattle.trick_model.specs.Run.{start}
use Rattle.trick_top_alone.proofs.ActedLemmas.{acted_run}
use Rattle.trick_top_alone.proofs.runs.run_new.Goals as goal

pub returns : goal.returns
returns g c =
    rw c.ended.ensures
    (acted_run (arc_value c.args.accepted.now).plan None (start (plan_of (arc_value c.args.accepted.now).plan)) refl c.serial.result c.serial.ensures.run)
