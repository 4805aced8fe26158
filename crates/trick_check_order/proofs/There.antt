-- What is called is there, as a test and as a fact.
use Rattle.std.proofs.Common.{◌≡◌, ℕ, zero, suc, ◌<◌, true, List, [], ◌∷◌, inl, inr, eq-eqb, refl, subst}
use Rattle.std.proofs.lemmas.Bool.{eqb-true, ltb-true, lt-ltb, and_parts, and_from, or_left, or_right, or_cases}
use Rattle.trick_check_order.specs.Calls.{all_below, callees, each_below, has}

all_below_has : (n : ℕ) (xs : List ℕ) (k : ℕ) → all_below n xs ≡ true → has xs k ≡ true → k < n
all_below_has n [] k all h = absurd (cc h)
all_below_has n (x ∷ xs) k all h = elim (or_cases _ (has xs k) h) [ inl p ↦ subst (λ j. j < n) (eqb-true x k p) (ltb-true x n (and_parts _ _ all).0) | inr p ↦ all_below_has n xs k (and_parts _ _ all).1 p ]

has_all_below : (n : ℕ) (xs : List ℕ) → ((k : ℕ) → has xs k ≡ true → k < n) → all_below n xs ≡ true
has_all_below n [] f = refl
has_all_below n (x ∷ xs) f = and_from _ _ (lt-ltb x n (f x (or_left _ _ (eq-eqb x x refl)))) (has_all_below n xs (λ k h. f k (or_right _ _ h)))

pub callees_below : (n : ℕ) (g : List (List ℕ)) → each_below n g ≡ true → (a b : ℕ) → has (callees g a) b ≡ true → b < n
callees_below n [] each a b h = absurd (cc h)
callees_below n (c ∷ cs) each zero b h = all_below_has n c b (and_parts _ _ each).0 h
callees_below n (c ∷ cs) each (suc a) b h = callees_below n cs (and_parts _ _ each).1 a b h

pub below_callees : (n : ℕ) (g : List (List ℕ)) → ((a b : ℕ) → has (callees g a) b ≡ true → b < n) → each_below n g ≡ true
below_callees n [] f = refl
below_callees n (c ∷ cs) f = and_from _ _ (has_all_below n c (λ k h. f 0 k h)) (below_callees n cs (λ a b h. f (suc a) b h))
