use Rattle.std.proofs.Common.{◌≡◌, ◌∙◌, sym, ap, subst, ℕ, List, [], ◌∷◌, ◌++◌, eqb, filter, IsSome, Some, None, Option}
use Rattle.std.specs.Option.{option_map}
use Rattle.trick_turn.specs.Passes.{number_of, seen, own}
use Rattle.trick_turn_tests.specs.declared.board.Entry.{Entry}
use Rattle.trick_turn_tests.specs.declared.board.Entry.TheVariants.{Close}
use Rattle.trick_turn_tests.specs.Entries.{seat_of}
use Rattle.trick_turn_tests.specs.Histories.{after, opened_at}
use Rattle.trick_turn_tests.proofs.EntryLists.{stands_more, leaves_from, something, some_before}
use Rattle.trick_turn_tests.proofs.chief.Chief.close.Goals as goal

pub close-memory-requires : goal.close-memory-requires
close-memory-requires g c = let f = g.M.Cells.numbers in let waited = c.claim-turn.ensures.got in let log : List Entry = seen c.claim-turn.result.pass.now in
    let mine : filter (λ e. eqb (seat_of e) 1) log ≡ own c.args.self.now.pass = subst (λ (n : ℕ). filter (λ e. eqb (seat_of e) n) log ≡ own c.args.self.now.pass) c.args.self.now.first waited.entries in
    let o = something (opened_at (own c.args.self.now.pass)) c.requires in
    let open_now : IsSome (after None log) = (leaves_from o.0 log (own c.args.self.now.pass) waited.state.1 mine o.1).0 in
    some_before f c.value.result.now (subst (λ (m : Option (List ℕ)). IsSome m) (sym (ap (option_map f) c.value.ensures.value ∙ waited.state.0)) open_now)

pub release-requires-clause-stands : goal.release-requires-clause-stands
release-requires-clause-stands g c = let f = g.M.Cells.numbers in let waited = c.claim-turn.ensures.got in let log : List Entry = seen c.claim-turn.result.pass.now in
    let mine : filter (λ e. eqb (seat_of e) 1) log ≡ own c.args.self.now.pass = subst (λ (n : ℕ). filter (λ e. eqb (seat_of e) n) log ≡ own c.args.self.now.pass) c.args.self.now.first waited.entries in
    let o = something (opened_at (own c.args.self.now.pass)) c.requires in
    let open_now : IsSome (after None log) = (leaves_from o.0 log (own c.args.self.now.pass) waited.state.1 mine o.1).0 in
    stands_more _ _ log _ waited.state (subst (λ (m : Option (List ℕ)). IsSome m) (sym waited.state.0) open_now, waited.number ∙ c.args.self.now.first) (ap (option_map f) c.close-memory.ensures.closed)

pub returns-clause-closes : goal.returns-clause-closes
returns-clause-closes g c = λ o is. (let f = g.M.Cells.numbers in let p = c.args.self.now.pass in let waited = c.claim-turn.ensures.got in let log : List Entry = seen c.claim-turn.result.pass.now in
    let one : number_of c.claim-turn.result.pass.now ≡ 1 = waited.number ∙ c.args.self.now.first in
    let mine : filter (λ e. eqb (seat_of e) 1) log ≡ own p = subst (λ (n : ℕ). filter (λ e. eqb (seat_of e) n) log ≡ own p) c.args.self.now.first waited.entries in
    let left : after None log ≡ Some (f c.close-memory.result) = sym waited.state.0 ∙ (sym (ap (option_map f) c.value.ensures.value) ∙ ap (option_map f) c.close-memory.ensures.memory) in (
      log,
      (
        waited.history,
        ap (λ v. v.seen) c.release.ensures.view ∙ ap (λ (n : ℕ). log ++ Close n ∷ []) one,
        ap (λ v. v.own) c.release.ensures.view ∙ (ap (λ (l : List Entry). l ++ Close (number_of c.claim-turn.result.pass.now) ∷ []) waited.added ∙ ap (λ (n : ℕ). own p ++ Close n ∷ []) one),
      ),
      (leaves_from o log (own p) waited.state.1 mine is).1 (f c.close-memory.result) left,
    ))
