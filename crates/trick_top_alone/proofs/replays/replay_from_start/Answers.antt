use Rattle.std.proofs.Common.{None, refl, subst, sym}
use Rattle.std.specs.Arc.{arc_value}
use Rattle.trick_journal.specs.Refusals.{IsRefused}
use Rattle.trick_model.specs.JournalText.{IsJournal}
use Rattle.trick_model.specs.PlanOf.{plan_of}
use Rattle.trick_model.specs.Run.{start}
use Rattle.trick_top_alone.proofs.ReplayLemmas.{acted_replay, acted_unread, turn_of_start}
use Rattle.trick_top_alone.proofs.replays.replay_from_start.Goals as goal

pub returns-in-Ok : goal.returns-in-Ok
returns-in-Ok g c =
    let plan = (arc_value c.args.accepted.now).plan in
    let p = plan_of plan in
    let read = rw (c.plan.ensures.plan, c.deref.ensures) at c.in-Ok.ensures in
    let is = subst (λ turn. IsJournal p turn c.args.journal.now c.in-Ok.journal) (sym (turn_of_start p)) read in
    rw c.replayed.ensures (acted_replay plan None (start p) refl c.args.journal.now c.in-Ok.journal is c.replay.result c.replay.ensures.run)

pub returns-in-Err : goal.returns-in-Err
returns-in-Err g c =
    let plan = (arc_value c.args.accepted.now).plan in
    let p = plan_of plan in
    let read = rw (c.plan.ensures.plan, c.deref.ensures) at c.in-Err.ensures in
    let refuses = subst (λ turn. IsRefused p turn c.args.journal.now c.in-Err.fault) (sym (turn_of_start p)) read in
    acted_unread plan None (start p) refl c.args.journal.now c.args.shelf.now (g.met.F.Shelf.called_none c.args.shelf.now)
    c.refused_texts_are_no_journals.ensures c.in-Err.fault _ c.unread.ensures refuses
