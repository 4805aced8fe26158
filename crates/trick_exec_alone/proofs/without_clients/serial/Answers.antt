use Rattle.std.proofs.Common.{subst, sym}
use Rattle.std.specs.Arc.{arc_value}
use Rattle.trick_model.specs.PlanOf.{plan_of}
use Rattle.trick_model.specs.Run.{start}
use Rattle.trick_model.specs.ValidState.{IsStateOf}
use Rattle.trick_exec_alone.proofs.SerialLemmas.{none_kept}
use Rattle.trick_exec_alone.proofs.without_clients.serial.Goals as goal

pub serial_from-requires-clause-valid : goal.serial_from-requires-clause-valid
serial_from-requires-clause-valid g c =
    let p = plan_of c.deref.result.now.plan in
    rw (← c.deref.ensures) (subst (IsStateOf p) (sym c.in-Ok.ensures.started) (c.runs_start_valid.ensures.start p (c.plans_are_sound.ensures c.deref.result.now.plan)))

pub serial_from-requires-clause-memory : goal.serial_from-requires-clause-memory
serial_from-requires-clause-memory g c = rw c.deref.ensures at c.in-Ok.ensures.memory

pub returns-in-Err : goal.returns-in-Err
returns-in-Err g c =
    let p = plan_of (arc_value c.args.accepted.now).plan in
    record { run = none_kept _ p (start p) (g.met.F.Shelf.called_none _) }
