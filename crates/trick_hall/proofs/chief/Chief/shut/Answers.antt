use Rattle.std.proofs.Common.{◌∙◌, refl, sym, subst, List}
use Rattle.trick_hall.proofs.Own.{closed_own}
use Rattle.trick_hall.proofs.Turns.{adds, waits_looked}
use Rattle.trick_hall_kept.specs.HallView.{HallView}
use Rattle.trick_hall_kept.specs.Standing.{StandsAt}
use Rattle.trick_hall_kept.specs.declared.entry.Entry.{Entry}
use Rattle.trick_turn.specs.Passes.{own, seen}
use Rattle.trick_hall.proofs.chief.Chief.shut.Goals as goal

pub release-requires-clause-names : goal.release-requires-clause-names
release-requires-clause-names g c = sym (c.claim-turn.ensures.got.number ∙ c.args.self.now.first)

pub release-requires-clause-stands : goal.release-requires-clause-stands
release-requires-clause-stands g c = λ plan picked.
    let log : List Entry = seen c.claim-turn.result.pass.now in
    let stands = c.claim-turn.ensures.got.state plan picked in
    c.shut.ensures plan log (subst (λ (hall : HallView). StandsAt plan hall log) (sym c.value.ensures.value) stands)
    (closed_own plan c.claim-turn.result.value _ log (own c.args.self.now.pass) stands c.args.self.now.first c.claim-turn.ensures.got.entries c.requires.closed)

pub returns-clause-adds : goal.returns-clause-adds
returns-clause-adds g c = adds _ _ _ (waits_looked _ _ _ _ _ c.claim-turn.ensures.got) _ _ refl c.release.ensures
