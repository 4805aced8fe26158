use Rattle.std.specs.Arc.{arc_value}
use Rattle.trick_model.specs.PlanOf.{plan_of}
use Rattle.trick_model.specs.State.{seen}
use Rattle.trick_exec_alone.proofs.SerialLemmas.{none_kept}
use Rattle.trick_exec_alone.proofs.without_clients.serial_from.Goals as goal

pub returns-in_default : goal.returns-in_default
returns-in_default g c =
    record { run = none_kept _ (plan_of (arc_value c.args.accepted.now).plan) (seen g.M.Cells.numbers c.args.state) (g.met.F.Shelf.called_none _) }

pub returns : goal.returns
returns g c = record { run = rw c.deref.ensures at c.serial_by.ensures.run }
