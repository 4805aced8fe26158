-- What lists of numbers have.
use Rattle.std.proofs.Common.{◌≡◌, ◌≢◌, ℕ, zero, suc, ◌<◌, ◌==◌, true, false, ◌||◌, List, [], ◌∷◌, ◌++◌, All, length, get_or, ◌⊎◌, inl, inr, eq-eqb, refl, ap, subst, arith}
use Rattle.std.proofs.lemmas.Bool.{and_from, and_parts, eqb-true, ne_eqb, or_cases, or_left, or_right}
use Rattle.std.proofs.lemmas.List.{get_or_default}
use Rattle.trick_check_order.specs.Calls.{has, all_in, callees}

pub has_push : (xs : List ℕ) (c : ℕ) → has (xs ++ c ∷ []) c ≡ true
has_push [] c = or_left (c == c) false (eq-eqb c c refl)
has_push (x ∷ xs) c = or_right (x == c) _ (has_push xs c)

pub has_kept : (xs ys : List ℕ) (k : ℕ) → has xs k ≡ true → has (xs ++ ys) k ≡ true
has_kept [] ys k h = absurd (cc h)
has_kept (x ∷ xs) ys k h = elim (or_cases (x == k) (has xs k) h) [ inl p ↦ or_left (x == k) _ p | inr p ↦ or_right (x == k) _ (has_kept xs ys k p) ]

pub has_other : (xs : List ℕ) (c k : ℕ) → c ≢ k → has (xs ++ c ∷ []) k ≡ has xs k
has_other [] c k h = ap (λ b. b || false) (ne_eqb c k h)
has_other (x ∷ xs) c k h = ap (λ b. (x == k) || b) (has_other xs c k h)

pub has_split : (xs : List ℕ) (c k : ℕ) → has (xs ++ c ∷ []) k ≡ true → (has xs k ≡ true) ⊎ (c ≡ k)
has_split [] c k h = elim (or_cases (c == k) false h) [ inl p ↦ inr (eqb-true c k p) | inr p ↦ absurd (cc p) ]
has_split (x ∷ xs) c k h = elim (or_cases (x == k) _ h) [ inl p ↦ inl (or_left (x == k) _ p) | inr p ↦ again (has_split xs c k p) ] where
  again : (has xs k ≡ true) ⊎ (c ≡ k) → (((x == k) || has xs k) ≡ true) ⊎ (c ≡ k)
  again (inl p) = inl (or_right (x == k) _ p)
  again (inr p) = inr p

pub has_at : (xs : List ℕ) (i : ℕ) → i < length xs → has xs (get_or xs i 0) ≡ true
has_at [] i h = absurd (omega arith)
has_at (x ∷ xs) zero h = or_left (x == x) _ (eq-eqb x x refl)
has_at (x ∷ xs) (suc i) h = or_right _ _ (has_at xs i (omega arith))

pub all_has : (P : ℕ → Type 0) (xs : List ℕ) → ((k : ℕ) → has xs k ≡ true → P k) → All P xs
all_has P xs f k d low = f (get_or xs k d) (subst (λ j. has xs j ≡ true) (get_or_default xs k 0 d low) (has_at xs k low))

pub place_of : (xs : List ℕ) (k : ℕ) → has xs k ≡ true → (i : ℕ) × (i < length xs) × (get_or xs i 0 ≡ k)
place_of [] k h = absurd (cc h)
place_of (x ∷ xs) k h = elim (or_cases (x == k) _ h) [ inl p ↦ (0, omega arith, eqb-true x k p) | inr p ↦ let q = place_of xs k p in (suc q.0, omega (arith, q.1), q.2) ]

pub all_in_has : (cs q : List ℕ) (c : ℕ) → all_in cs q ≡ true → has cs c ≡ true → has q c ≡ true
all_in_has [] q c a h = absurd (cc h)
all_in_has (x ∷ cs) q c a h = elim (or_cases (x == c) _ h) [ inl p ↦ subst (λ y. has q y ≡ true) (eqb-true x c p) (and_parts _ _ a).0 | inr p ↦ all_in_has cs q c (and_parts _ _ a).1 p ]

pub all_in_more : (cs q q' : List ℕ) → ((k : ℕ) → has q k ≡ true → has q' k ≡ true) → all_in cs q ≡ true → all_in cs q' ≡ true
all_in_more [] q q' f a = refl
all_in_more (x ∷ cs) q q' f a = and_from _ _ (f x (and_parts _ _ a).0) (all_in_more cs q q' f (and_parts _ _ a).1)

pub all_in_push : (cs : List ℕ) (c : ℕ) (q : List ℕ) → all_in cs q ≡ true → has q c ≡ true → all_in (cs ++ c ∷ []) q ≡ true
all_in_push [] c q a h = and_from _ _ h refl
all_in_push (x ∷ cs) c q a h = and_from _ _ (and_parts _ _ a).0 (all_in_push cs c q (and_parts _ _ a).1 h)

pub get_front : (xs ys : List ℕ) (i : ℕ) → i < length xs → get_or (xs ++ ys) i 0 ≡ get_or xs i 0
get_front [] ys i h = absurd (omega arith)
get_front (x ∷ xs) ys zero h = refl
get_front (x ∷ xs) ys (suc i) h = get_front xs ys i (omega arith)

pub callees_in : (gs : List (List ℕ)) (k : ℕ) (d : List ℕ) → k < length gs → get_or gs k d ≡ callees gs k
callees_in [] k d h = absurd (omega arith)
callees_in (g ∷ gs) zero d h = refl
callees_in (g ∷ gs) (suc k) d h = callees_in gs k d (omega arith)
