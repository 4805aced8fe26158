use Rattle.std.proofs.Common.{Some}
use Rattle.std.specs.Arc.{arc_value}
use Rattle.trick_top_alone.proofs.ActedLemmas.{acted_unloaded, loaded_from}
use Rattle.trick_top_alone.proofs.ReplayLemmas.{acted_replay, acted_unread}
use Rattle.trick_top_alone.proofs.replays.replay_from_checkpoint.Goals as goal

pub returns-in-Err : goal.returns-in-Err
returns-in-Err g c =
    let refuses = rw (c.plan.ensures.plan, c.deref.ensures) at c.in-Err.ensures.loaded in
    let same = rw (c.plan.ensures.plan, c.deref.ensures) at c.in-Err.ensures.same in
    acted_unloaded c.args.shelf.now (g.met.F.Shelf.called_none c.args.shelf.now) (arc_value c.args.accepted.now).plan c.args.from.now
    (Some c.args.journal.now) c.in-Err.fault _ c.unloaded.ensures refuses same

pub replay_from-requires-clause-valid : goal.replay_from-requires-clause-valid
replay_from-requires-clause-valid g c = let is = rw (c.plan.ensures.plan, c.deref.ensures) at c.in-Ok.ensures.checkpoint in is.valid

pub replay_from-requires-clause-memory : goal.replay_from-requires-clause-memory
replay_from-requires-clause-memory g c = rw (c.plan.ensures.plan, c.deref.ensures) at c.in-Ok.ensures.memory

pub returns-in-Ok-read : goal.returns-in-Ok-read
returns-in-Ok-read g c =
    let plan = (arc_value c.args.accepted.now).plan in
    let is = rw (c.plan.ensures.plan, c.deref.ensures) at c.in-Ok.ensures.checkpoint in
    let same = rw (c.plan.ensures.plan, c.deref.ensures) at c.in-Ok.ensures.same in
    let read = rw (c.plan-2.ensures.plan, c.deref-2.ensures) at c.in-Ok-read.ensures in
    rw c.replayed.ensures
    (acted_replay plan (Some c.args.from.now) _ (loaded_from plan c.args.from.now _ is same) c.args.journal.now c.in-Ok-read.journal read
    c.replay_from.result c.replay_from.ensures.run)

pub returns-in-Err-read : goal.returns-in-Err-read
returns-in-Err-read g c =
    let plan = (arc_value c.args.accepted.now).plan in
    let is = rw (c.plan.ensures.plan, c.deref.ensures) at c.in-Ok.ensures.checkpoint in
    let same = rw (c.plan.ensures.plan, c.deref.ensures) at c.in-Ok.ensures.same in
    let read = rw (c.plan-2.ensures.plan, c.deref-2.ensures) at c.in-Err-read.ensures in
    acted_unread plan (Some c.args.from.now) _ (loaded_from plan c.args.from.now _ is same) c.args.journal.now c.args.shelf.now
    (g.met.F.Shelf.called_none c.args.shelf.now) c.refused_texts_are_no_journals.ensures c.in-Err-read.fault _ c.unread.ensures read
