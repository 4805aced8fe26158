use Rattle.std.proofs.Common.{◌≡◌, ◌∙◌, sym, ap, subst, ℕ, List, eqb, filter, None, Some, [], Option, refl, unwrap_or}
use Rattle.std.specs.Option.{option_map}
use Rattle.trick_turn.specs.Passes.{seen, own}
use Rattle.trick_turn_tests.specs.declared.board.Entry.{Entry}
use Rattle.trick_turn_tests.specs.Entries.{seat_of}
use Rattle.trick_turn_tests.specs.Histories.{after, opened_at}
use Rattle.trick_turn_tests.proofs.EntryLists.{stands_more, is_closed}
use Rattle.trick_turn_tests.proofs.chief.Chief.open.Goals as goal

pub tell_open-requires-clause-stands : goal.tell_open-requires-clause-stands
tell_open-requires-clause-stands g c = let f = g.M.Cells.numbers in let waited = c.claim-turn.ensures.got in let log : List Entry = seen c.claim-turn.result.pass.now in
    let mine : filter (λ e. eqb (seat_of e) 1) log ≡ own c.args.self.now.pass = subst (λ (n : ℕ). filter (λ e. eqb (seat_of e) n) log ≡ own c.args.self.now.pass) c.args.self.now.first waited.entries in
    let off : after None log ≡ None = is_closed None None log waited.state.1 (λ _. refl) (ap opened_at mine ∙ c.requires) in
    stands_more _ _ log _ waited.state (waited.state.0 ∙ off, refl)
    (subst (λ (m : Option g.row.M.Denot). option_map f m ≡ Some (unwrap_or (option_map f m) [])) (sym c.open.ensures) refl)
