-- What filters, numbers in a row and lists in order have.
use Rattle.std.proofs.Common.{◌≡◌, ℕ, zero, suc, ◌+◌, ◌<◌, ◌≤◌, ◌==◌, Bool, true, false, cond, not, List, [], ◌∷◌, ◌++◌, filter, length, ◌⊎◌, inl, inr, eq-eqb, refl, ap, sym, ◌∙◌, subst, arith}
use Rattle.std.proofs.lemmas.Bool.{and_from, and_parts, cases_eq, eqb-true, false_from_ne_true, not-true, or_cases, or_left, or_right}
use Rattle.std.proofs.lemmas.List.{append-nil, append_assoc}
use Rattle.std.specs.List.{range_with_len}
use Rattle.trick_check_order.proofs.Has.{all_in_more, has_kept, has_split}
use Rattle.trick_check_order.proofs.Steps.{true_false}
use Rattle.trick_check_order.specs.Calls.{all_in, callees, first_rounds, has, is_next, stand_after}

pub has_later : (xs ys : List ℕ) (k : ℕ) → has ys k ≡ true → has (xs ++ ys) k ≡ true
has_later [] ys k h = h
has_later (x ∷ xs) ys k h = or_right _ _ (has_later xs ys k h)

pub has_either : (xs ys : List ℕ) (k : ℕ) → has (xs ++ ys) k ≡ true → (has xs k ≡ true) ⊎ (has ys k ≡ true)
has_either [] ys k h = inr h
has_either (x ∷ xs) ys k h = elim (or_cases (x == k) _ h) [ inl p ↦ inl (or_left _ _ p) | inr p ↦ again (has_either xs ys k p) ] where
  again : (has xs k ≡ true) ⊎ (has ys k ≡ true) → (has (x ∷ xs) k ≡ true) ⊎ (has ys k ≡ true)
  again (inl p) = inl (or_right _ _ p)
  again (inr p) = inr p

pub has_all_in : (cs q : List ℕ) → ((c : ℕ) → has cs c ≡ true → has q c ≡ true) → all_in cs q ≡ true
has_all_in [] q f = refl
has_all_in (x ∷ cs) q f = and_from _ _ (f x (or_left _ _ (eq-eqb x x refl))) (has_all_in cs q (λ c h. f c (or_right _ _ h)))

pub filter_has : (p : ℕ → Bool) (xs : List ℕ) (k : ℕ) → has (filter p xs) k ≡ true → (has xs k ≡ true) × (p k ≡ true)
filter_has p [] k h = absurd (cc h)
filter_has p (x ∷ xs) k h = by (p x) refl h (λ q. filter_has p xs k q) where
  by : (b : Bool) → p x ≡ b → has (cond b (x ∷ filter p xs) (filter p xs)) k ≡ true → (has (filter p xs) k ≡ true → (has xs k ≡ true) × (p k ≡ true)) → (has (x ∷ xs) k ≡ true) × (p k ≡ true)
  by true e h f = elim (or_cases (x == k) _ h) [ inl q ↦ (or_left _ _ q, subst (λ j. p j ≡ true) (eqb-true x k q) e) | inr q ↦ (let r = f q in (or_right _ _ r.0, r.1)) ]
  by false e h f = let r = f h in (or_right _ _ r.0, r.1)

pub has_filter : (p : ℕ → Bool) (xs : List ℕ) (k : ℕ) → has xs k ≡ true → p k ≡ true → has (filter p xs) k ≡ true
has_filter p [] k h t = absurd (cc h)
has_filter p (x ∷ xs) k h t = by (p x) refl (or_cases (x == k) _ h) (λ q. has_filter p xs k q t) where
  by : (b : Bool) → p x ≡ b → ((x == k) ≡ true) ⊎ (has xs k ≡ true) → (has xs k ≡ true → has (filter p xs) k ≡ true) → has (cond b (x ∷ filter p xs) (filter p xs)) k ≡ true
  by true e (inl q) f = or_left _ _ q
  by true e (inr q) f = or_right _ _ (f q)
  by false e (inl q) f = true_false (p k) t (subst (λ j. p j ≡ false) (eqb-true x k q) e)
  by false e (inr q) f = f q

pub filter_same : (p q : ℕ → Bool) (xs : List ℕ) → ((k : ℕ) → has xs k ≡ true → p k ≡ q k) → filter p xs ≡ filter q xs
filter_same p q [] f = refl
filter_same p q (x ∷ xs) f =
    ap (λ b. cond b (x ∷ filter p xs) (filter p xs)) (f x (or_left _ _ (eq-eqb x x refl)))
    ∙ ap (λ ys. cond (q x) (x ∷ ys) ys) (filter_same p q xs (λ k h. f k (or_right _ _ h)))

pub range_has : (n a k : ℕ) → has (range_with_len a n) k ≡ true → (a ≤ k) × (k < a + n)
range_has zero a k h = absurd (cc h)
range_has (suc n) a k h = elim (or_cases (a == k) _ h) [ inl p ↦ (let e = eqb-true a k p in (omega (arith, e), omega (arith, e))) | inr p ↦ (let r = range_has n (a + 1) k p in (omega (arith, r.0), omega (arith, r.1))) ]

pub has_range : (n a k : ℕ) → a ≤ k → k < a + n → has (range_with_len a n) k ≡ true
has_range zero a k low high = absurd (omega arith)
has_range (suc n) a k low high = elim (cases_eq a k) [ inl e ↦ or_left _ _ (eq-eqb a k e) | inr e ↦ or_right _ _ (has_range n (a + 1) k (omega (arith, e)) (omega arith)) ]

-- ---- in order

pub stand_append : (g : List (List ℕ)) (seen xs ys : List ℕ) → stand_after g seen xs ≡ true → stand_after g (seen ++ xs) ys ≡ true → stand_after g seen (xs ++ ys) ≡ true
stand_append g seen [] ys a b = subst (λ s. stand_after g s ys ≡ true) (append-nil seen) b
stand_append g seen (x ∷ xs) ys a b = and_from _ _ (and_parts _ _ a).0 (stand_append g (seen ++ x ∷ []) xs ys (and_parts _ _ a).1 (subst (λ s. stand_after g s ys ≡ true) (sym (append_assoc seen (x ∷ []) xs)) b))

pub stand_split : (g : List (List ℕ)) (seen xs ys : List ℕ) → stand_after g seen (xs ++ ys) ≡ true → stand_after g (seen ++ xs) ys ≡ true
stand_split g seen [] ys s = subst (λ q. stand_after g q ys ≡ true) (sym (append-nil seen)) s
stand_split g seen (x ∷ xs) ys s = subst (λ q. stand_after g q ys ≡ true) (append_assoc seen (x ∷ []) xs) (stand_split g (seen ++ x ∷ []) xs ys (and_parts _ _ s).1)

-- those of a round, after the rounds before and those of this round that are before them in the text
stand_round : (g : List (List ℕ)) (p done : List ℕ) (n a : ℕ) → ((k : ℕ) → has done k ≡ true → k < a) → stand_after g (p ++ done) (filter (is_next g p) (range_with_len a n)) ≡ true
stand_round g p done zero a low = refl
stand_round g p done (suc n) a low = by (is_next g p a) refl (stand_round g p (done ++ a ∷ []) n (a + 1) low_push) (stand_round g p done n (a + 1) (λ k h. omega (arith, low k h))) where
  rest : List ℕ
  rest = filter (is_next g p) (range_with_len (a + 1) n)

  low_push : (k : ℕ) → has (done ++ a ∷ []) k ≡ true → k < a + 1
  low_push k h = elim (has_split done a k h) [ inl q ↦ omega (arith, low k q) | inr q ↦ omega (arith, q) ]

  fresh : has p a ≡ false → has (p ++ done) a ≡ false
  fresh f = false_from_ne_true _ (λ h. elim (has_either p done a h) [ inl q ↦ true_false (has p a) q f | inr q ↦ absurd (omega (arith, low a q)) ])

  by : (b : Bool) → is_next g p a ≡ b → stand_after g (p ++ (done ++ a ∷ [])) rest ≡ true → stand_after g (p ++ done) rest ≡ true → stand_after g (p ++ done) (cond b (a ∷ rest) rest) ≡ true
  by true e more same =
      and_from _ _ (and_from _ _ (ap not (fresh (not-true _ (and_parts _ _ e).0))) (all_in_more (callees g a) p (p ++ done) (λ k h. has_kept p done k h) (and_parts _ _ e).1))
      (subst (λ s. stand_after g s rest ≡ true) (sym (append_assoc p done (a ∷ []))) more)
  by false e more same = same

pub rounds_stand : (g : List (List ℕ)) (n : ℕ) → stand_after g [] (first_rounds g n) ≡ true
rounds_stand g zero = refl
rounds_stand g (suc n) =
    let p = first_rounds g n in
    let round = filter (is_next g p) (range_with_len 0 (length g)) in
    stand_append g [] p round (rounds_stand g n) (subst (λ s. stand_after g s round ≡ true) (append-nil p) (stand_round g p [] (length g) 0 (λ k h. absurd (cc h))))

pub rounds_below : (g : List (List ℕ)) (n k : ℕ) → has (first_rounds g n) k ≡ true → k < length g
rounds_below g zero k h = absurd (cc h)
rounds_below g (suc n) k h = elim (has_either (first_rounds g n) _ k h) [ inl p ↦ rounds_below g n k p | inr p ↦ omega (arith, (range_has (length g) 0 k (filter_has _ (range_with_len 0 (length g)) k p).0).1) ]
