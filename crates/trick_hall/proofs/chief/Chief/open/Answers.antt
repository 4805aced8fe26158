use Rattle.std.proofs.Common.{◌∙◌, refl, sym, ap, subst, List, None, ◌++◌, ◌∷◌, []}
use Rattle.trick_hall_kept.proofs.Entries.{stands_picked}
use Rattle.trick_hall.proofs.Own.{closed_own, not_shut_own, opened_more, shut_more}
use Rattle.trick_hall.proofs.Turns.{adds, waits_looked, open_at}
use Rattle.trick_hall_kept.specs.HallView.{HallView}
use Rattle.trick_hall_kept.specs.Histories.{has_shut}
use Rattle.trick_hall_kept.specs.Openings.{opened_at}
use Rattle.trick_hall_kept.specs.Standing.{StandsAt}
use Rattle.trick_hall_kept.specs.declared.entry.Entry.{Entry}
use Rattle.trick_turn.specs.Passes.{own, seen}
use Rattle.trick_hall.proofs.chief.Chief.open.Goals as goal

pub open-requires-clause-closed : goal.open-requires-clause-closed
open-requires-clause-closed g c =
    let plan = c.args.accepted.now.plan in let log : List Entry = seen c.claim-turn.result.pass.now in
    let stands = c.claim-turn.ensures.got.state plan c.requires.plan in (
      log,
      subst (λ (hall : HallView). StandsAt plan hall log) (sym c.value.ensures.value) stands,
      closed_own plan c.claim-turn.result.value _ log (own c.args.self.now.pass) stands c.args.self.now.first c.claim-turn.ensures.got.entries c.requires.closed,
    )

pub tell_open-requires-clause-stands : goal.tell_open-requires-clause-stands
tell_open-requires-clause-stands g c =
    let plan = c.args.accepted.now.plan in let log : List Entry = seen c.claim-turn.result.pass.now in
    let stands = c.claim-turn.ensures.got.state plan c.requires.plan in
    let here = subst (λ (hall : HallView). StandsAt plan hall log) (sym c.value.ensures.value) stands in
    let none = closed_own plan c.claim-turn.result.value _ log (own c.args.self.now.pass) stands c.args.self.now.first c.claim-turn.ensures.got.entries c.requires.closed in
    let off = not_shut_own plan c.claim-turn.result.value _ log (own c.args.self.now.pass) stands c.args.self.now.first c.claim-turn.ensures.got.entries c.requires.not_shut in
    stands_picked _ plan _ _ c.requires.plan
    (subst (λ (e : Entry). StandsAt plan c.open.new.self (log ++ e ∷ [])) (sym c.open.ensures.entry) (c.open.ensures.stands log here none off))

pub returns-clause-adds : goal.returns-clause-adds
returns-clause-adds g c = adds _ _ _ (waits_looked _ _ _ _ _ c.claim-turn.ensures.got) _ _ c.open.ensures.entry c.tell_open.ensures

pub returns-clause-opened : goal.returns-clause-opened
returns-clause-opened g c =
    ap opened_at (returns-clause-adds g c).1.own_is ∙ opened_more None (own c.args.self.now.pass) (g.M.Cells.numbers c.args.memory) c.args.on.now c.args.tic

pub returns-clause-not_shut : goal.returns-clause-not_shut
returns-clause-not_shut g c =
    ap has_shut (returns-clause-adds g c).1.own_is ∙ (shut_more (own c.args.self.now.pass) _ refl ∙ c.requires.not_shut)

pub returns-clause-legal : goal.returns-clause-legal
returns-clause-legal g c =
    let plan = c.args.accepted.now.plan in let log : List Entry = seen c.claim-turn.result.pass.now in let p = c.args.self.now.pass in let t = c.claim-turn.result.pass.now in
    let stands = c.claim-turn.ensures.got.state plan c.requires.plan in
    let here = subst (λ (hall : HallView). StandsAt plan hall log) (sym c.value.ensures.value) stands in
    let none = closed_own plan c.claim-turn.result.value _ log (own p) stands c.args.self.now.first c.claim-turn.ensures.got.entries c.requires.closed in
    let off = not_shut_own plan c.claim-turn.result.value _ log (own p) stands c.args.self.now.first c.claim-turn.ensures.got.entries c.requires.not_shut in
    let legal = open_at p t c.tell_open.new.turn.1.0 (waits_looked _ _ p t _ c.claim-turn.ensures.got) plan c.open.new.self _ _ c.open.ensures.entry c.tell_open.ensures (c.open.ensures.stands log here none off) in
    legal
