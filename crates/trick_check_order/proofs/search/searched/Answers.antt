use Rattle.std.proofs.Common.{◌≡◌, ℕ, [], List, length, arith, refl, ◌∷◌}
use Rattle.std.proofs.lemmas.Bool.Decides.{nat_tests}
use Rattle.trick_check_order.proofs.Steps.{ended}
use Rattle.trick_check_order.proofs.search.searched.Goals as goal

none : (xs : List ℕ) → length xs ≡ 0 → xs ≡ []
none [] h = refl
none (x ∷ xs) h = absurd (omega arith)

pub returns : goal.returns
returns c =
    let s = c.loop-search.search in
    let zero_long : length s.stack.items ≡ 0 = grind (arith, nat_tests, s.stack.ok.0) in
    ended c.args.calls.now _ _ s.next.items _ _ s.root c.loop-search.invariant (none s.stack.items zero_long) (omega arith)
