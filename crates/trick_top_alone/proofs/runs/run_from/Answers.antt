use Rattle.std.proofs.Common.{None, Some}
use Rattle.std.specs.Arc.{arc_value}
use Rattle.trick_top_alone.proofs.ActedLemmas.{acted_run, acted_unloaded, loaded_from}
use Rattle.trick_top_alone.proofs.runs.run_from.Goals as goal

pub serial_from-requires-clause-valid : goal.serial_from-requires-clause-valid
serial_from-requires-clause-valid g c = let is = rw (c.plan.ensures.plan, c.deref.ensures) at c.in-Ok.ensures.checkpoint in is.valid

pub serial_from-requires-clause-memory : goal.serial_from-requires-clause-memory
serial_from-requires-clause-memory g c = rw (c.plan.ensures.plan, c.deref.ensures) at c.in-Ok.ensures.memory

pub returns-in-Ok : goal.returns-in-Ok
returns-in-Ok g c =
    let plan = (arc_value c.args.accepted.now).plan in
    let is = rw (c.plan.ensures.plan, c.deref.ensures) at c.in-Ok.ensures.checkpoint in
    let same = rw (c.plan.ensures.plan, c.deref.ensures) at c.in-Ok.ensures.same in
    rw c.ended.ensures (acted_run plan (Some c.args.text.now) _ (loaded_from plan c.args.text.now _ is same) c.serial_from.result c.serial_from.ensures.run)

pub returns-in-Err : goal.returns-in-Err
returns-in-Err g c =
    let refuses = rw (c.plan.ensures.plan, c.deref.ensures) at c.in-Err.ensures.loaded in
    let same = rw (c.plan.ensures.plan, c.deref.ensures) at c.in-Err.ensures.same in
    acted_unloaded c.args.shelf.now (g.met.F.Shelf.called_none c.args.shelf.now) (arc_value c.args.accepted.now).plan c.args.text.now None c.in-Err.fault _
    c.unloaded.ensures refuses same
