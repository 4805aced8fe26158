use Rattle.std.proofs.Common.{◌∙◌, refl, rules, sym, ap, subst, List, None, ◌++◌, ◌∷◌, []}
use Rattle.trick_hall_kept.proofs.Entries.{stands_picked}
use Rattle.trick_hall.proofs.Own.{closed_own, not_shut_own, opened_more, shut_more}
use Rattle.trick_hall.proofs.Turns.{adds, claims_looked, open_at}
use Rattle.trick_hall_kept.specs.HallView.{HallView}
use Rattle.trick_hall_kept.specs.Histories.{has_shut}
use Rattle.trick_hall_kept.specs.Openings.{opened_at}
use Rattle.trick_hall_kept.specs.Standing.{StandsAt}
use Rattle.trick_hall_kept.specs.declared.entry.Entry.{Entry}
use Rattle.trick_turn.specs.Passes.{own, seen}
use Rattle.trick_hall.proofs.chief.Chief.try_open.Goals as goal

pub open-requires-clause-closed : goal.open-requires-clause-closed
open-requires-clause-closed g c =
    let plan = c.args.accepted.now.plan in let log : List Entry = seen c.in-Got.turn.pass.now in
    let stands = c.in-Got.ensures.got.state plan c.requires.plan in (
      log,
      subst (λ (hall : HallView). StandsAt plan hall log) (sym c.value.ensures.value) stands,
      closed_own plan c.in-Got.turn.value _ log (own c.args.self.now.pass) stands c.args.self.now.first c.in-Got.ensures.got.entries c.requires.closed,
    )

pub tell_open-requires-clause-stands : goal.tell_open-requires-clause-stands
tell_open-requires-clause-stands g c =
    let plan = c.args.accepted.now.plan in let log : List Entry = seen c.in-Got.turn.pass.now in
    let stands = c.in-Got.ensures.got.state plan c.requires.plan in
    let here = subst (λ (hall : HallView). StandsAt plan hall log) (sym c.value.ensures.value) stands in
    let none = closed_own plan c.in-Got.turn.value _ log (own c.args.self.now.pass) stands c.args.self.now.first c.in-Got.ensures.got.entries c.requires.closed in
    let off = not_shut_own plan c.in-Got.turn.value _ log (own c.args.self.now.pass) stands c.args.self.now.first c.in-Got.ensures.got.entries c.requires.not_shut in
    stands_picked _ plan _ _ c.requires.plan
    (subst (λ (e : Entry). StandsAt plan c.open.new.self (log ++ e ∷ [])) (sym c.open.ensures.entry) (c.open.ensures.stands log here none off))

pub returns-in-Got-clause-answer : goal.returns-in-Got-clause-answer
returns-in-Got-clause-answer g c =
    let added = adds _ _ _ (claims_looked _ _ c.args.self.now.pass _ _ c.in-Got.ensures.got) _ _ c.open.ensures.entry c.tell_open.ensures in
    search (rules, added)

pub returns-in-Got-clause-opened : goal.returns-in-Got-clause-opened
returns-in-Got-clause-opened g c =
    let p = c.args.self.now.pass in let t = c.in-Got.turn.pass.now in let q = c.tell_open.new.turn.1.0 in
    let added = adds p t q (claims_looked _ _ p t _ c.in-Got.ensures.got) _ _ c.open.ensures.entry c.tell_open.ensures in
    let opened = ap opened_at added.1.own_is ∙ opened_more None (own p) (g.M.Cells.numbers c.args.memory) c.args.on.now c.args.tic in
    search (rules, opened)

pub returns-in-Got-clause-not_shut : goal.returns-in-Got-clause-not_shut
returns-in-Got-clause-not_shut g c =
    let p = c.args.self.now.pass in let t = c.in-Got.turn.pass.now in let q = c.tell_open.new.turn.1.0 in
    let added = adds p t q (claims_looked _ _ p t _ c.in-Got.ensures.got) _ _ c.open.ensures.entry c.tell_open.ensures in
    let off = ap has_shut added.1.own_is ∙ (shut_more (own p) _ refl ∙ c.requires.not_shut) in
    search (rules, off)

pub returns-in-Got-clause-legal : goal.returns-in-Got-clause-legal
returns-in-Got-clause-legal g c =
    let plan = c.args.accepted.now.plan in let log : List Entry = seen c.in-Got.turn.pass.now in let p = c.args.self.now.pass in let t = c.in-Got.turn.pass.now in
    let stands = c.in-Got.ensures.got.state plan c.requires.plan in
    let here = subst (λ (hall : HallView). StandsAt plan hall log) (sym c.value.ensures.value) stands in
    let none = closed_own plan c.in-Got.turn.value _ log (own p) stands c.args.self.now.first c.in-Got.ensures.got.entries c.requires.closed in
    let off = not_shut_own plan c.in-Got.turn.value _ log (own p) stands c.args.self.now.first c.in-Got.ensures.got.entries c.requires.not_shut in
    let legal = open_at p t c.tell_open.new.turn.1.0 (claims_looked _ _ p t _ c.in-Got.ensures.got) plan c.open.new.self _ _ c.open.ensures.entry c.tell_open.ensures (c.open.ensures.stands log here none off) in
    search (rules, legal)
