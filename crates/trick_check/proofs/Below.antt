-- What is in a list of numbers that are all below one.
use Rattle.std.proofs.Common.{◌≡◌, ℕ, zero, suc, ◌<◌, true, inl, inr, List, [], ◌∷◌, subst}
use Rattle.std.proofs.lemmas.Bool.{and_parts, eqb-true, ltb-true, or_cases}
use Rattle.trick_check_order.specs.Calls.{all_below, callees, each_below, has}

below_has : (n : ℕ) (xs : List ℕ) (k : ℕ) → all_below n xs ≡ true → has xs k ≡ true → k < n
below_has n [] k all h = absurd (cc h)
below_has n (x ∷ xs) k all h =
    elim (or_cases _ (has xs k) h) [ inl p ↦ subst (λ j. j < n) (eqb-true x k p) (ltb-true x n (and_parts _ _ all).0) | inr p ↦ below_has n xs k (and_parts _ _ all).1 p ]

pub callees_below : (n : ℕ) (g : List (List ℕ)) → each_below n g ≡ true → (a b : ℕ) → has (callees g a) b ≡ true → b < n
callees_below n [] each a b h = absurd (cc h)
callees_below n (c ∷ cs) each zero b h = below_has n c b (and_parts _ _ each).0 h
callees_below n (c ∷ cs) each (suc a) b h = callees_below n cs (and_parts _ _ each).1 a b h
