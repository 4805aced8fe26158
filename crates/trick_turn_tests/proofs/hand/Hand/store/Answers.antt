use Rattle.std.proofs.Common.{◌≡◌, ◌∙◌, sym, ap, subst, ℕ, List, Option, is_some, true, slice_set}
use Rattle.std.specs.Option.{option_map}
use Rattle.trick_turn_tests.proofs.EntryLists.{stands_more, some_mapped}
use Rattle.trick_turn_tests.proofs.hand.Hand.store.Goals as goal

pub tell_store-requires-clause-stands : goal.tell_store-requires-clause-stands
tell_store-requires-clause-stands g c = let f = g.M.Cells.numbers in let got = c.claim-turn.ensures.got in let same = ap (option_map f) c.value.ensures.value in let stored = c.if-store.ensures in
    stands_more _ _ _ _ got.state (subst (λ (m : Option (List ℕ)). is_some m ≡ true) same (some_mapped f c.value.result.now (sym stored.open)))
    (stored.stored ∙ ap (option_map (λ (xs : List ℕ). slice_set xs c.args.cell c.args.number)) same)
