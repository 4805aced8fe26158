use Rattle.std.proofs.Common.{◌∙◌, rules, sym, ap, subst, List, Option, ◌++◌}
use Rattle.trick_hall_kept.proofs.Entries.{stands_picked}
use Rattle.trick_hall.proofs.Own.{closed_after, open_own, opened_own, shut_after}
use Rattle.trick_hall_kept.proofs.Tics.{if_tried, tried_close}
use Rattle.trick_hall.proofs.Turns.{claims_looked, close_at, close_names, tells}
use Rattle.trick_hall_kept.specs.Answers.{ClosesIn, close_if}
use Rattle.trick_hall_kept.specs.HallView.{HallView}
use Rattle.trick_hall_kept.specs.Histories.{Opening}
use Rattle.trick_hall_kept.specs.Standing.{StandsAt}
use Rattle.trick_hall_kept.specs.Telling.{HasTold}
use Rattle.trick_hall_kept.specs.declared.entry.Entry.{Entry}
use Rattle.trick_turn.specs.Passes.{own, seen}
use Rattle.trick_turn.specs.Views.{entries_told}
use Rattle.trick_hall.proofs.chief.Chief.try_close.Goals as goal

pub close-closed-requires : goal.close-closed-requires
close-closed-requires g c =
    let plan = c.args.accepted.now.plan in let log : List Entry = seen c.in-Got.turn.pass.now in
    let stands = c.in-Got.ensures.got.state plan c.requires.plan in
    record {
      opened = (
        log,
        subst (λ (hall : HallView). StandsAt plan hall log) (sym c.value.ensures.value) stands,
        open_own plan c.in-Got.turn.value _ log (own c.args.self.now.pass) stands c.args.self.now.first c.in-Got.ensures.got.entries c.requires.opened,
      );
    }

pub tell_close-requires-clause-names : goal.tell_close-requires-clause-names
tell_close-requires-clause-names g c = close_names c.is_memory.result _ (ap (λ v. v.number) c.in-Got.ensures.got.view ∙ c.args.self.now.first)

pub tell_close-requires-clause-stands : goal.tell_close-requires-clause-stands
tell_close-requires-clause-stands g c =
    let plan = c.args.accepted.now.plan in let log : List Entry = seen c.in-Got.turn.pass.now in
    let here = subst (λ (hall : HallView). StandsAt plan hall log) (sym c.value.ensures.value) (c.in-Got.ensures.got.state plan c.requires.plan) in
    stands_picked _ plan _ _ c.requires.plan
    (subst (λ (told : Option Entry). StandsAt plan c.close-closed.new.self (log ++ entries_told told)) (sym (ap close_if c.is_memory.ensures)) (c.close-closed.ensures.stands log here))

pub returns-in-Got-clause-answer : goal.returns-in-Got-clause-answer
returns-in-Got-clause-answer g c = λ x is.
    let plan = c.args.accepted.now.plan in let log : List Entry = seen c.in-Got.turn.pass.now in
    let stands = c.in-Got.ensures.got.state plan c.requires.plan in
    let here = subst (λ (hall : HallView). StandsAt plan hall log) (sym c.value.ensures.value) stands in
    let by = opened_own plan c.in-Got.turn.value _ log (own c.args.self.now.pass) stands c.args.self.now.first c.in-Got.ensures.got.entries x is in
    let answers = subst (λ (y : Opening). ClosesIn g.M.Cells.numbers plan y log c.args.faults.now c.close-closed.new.faults c.close-closed.result) by.put_in
    (c.close-closed.ensures.answer log by.is_open here by.is) in
    let told = close_at _ _ _ (claims_looked _ _ c.args.self.now.pass _ _ c.in-Got.ensures.got) g.M.Cells.numbers plan x c.args.faults.now c.close-closed.new.faults c.close-closed.result
    _ (ap close_if c.is_memory.ensures) c.tell_close.ensures answers c.close-closed.new.self (c.close-closed.ensures.stands log here) in
    let tried = tried_close g.M.Cells.numbers plan x _ _ _ _ c.close-closed.result told in
    search (rules, tried)

pub returns-in-Got-clause-closed : goal.returns-in-Got-clause-closed
returns-in-Got-clause-closed g c =
    let p = c.args.self.now.pass in let t = c.in-Got.turn.pass.now in let q = c.tell_close.new.turn.1.0 in
    let told = subst (λ (told : Option Entry). HasTold (seen t) told p q) (ap close_if c.is_memory.ensures) (tells p t q (claims_looked _ _ p t _ c.in-Got.ensures.got) _ c.tell_close.ensures) in
    let closed = if_tried c.close-closed.result _ (closed_after c.close-closed.result (own p) (own q) told.own_is) in
    search (rules, closed)

pub returns-in-Got-clause-shut : goal.returns-in-Got-clause-shut
returns-in-Got-clause-shut g c =
    let p = c.args.self.now.pass in let t = c.in-Got.turn.pass.now in let q = c.tell_close.new.turn.1.0 in
    let told = subst (λ (told : Option Entry). HasTold (seen t) told p q) (ap close_if c.is_memory.ensures) (tells p t q (claims_looked _ _ p t _ c.in-Got.ensures.got) _ c.tell_close.ensures) in
    let same = shut_after c.close-closed.result (own p) (own q) told.own_is in
    search (rules, same)
