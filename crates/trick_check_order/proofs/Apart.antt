-- Distinct numbers below a bound are no more than the bound.
use Rattle.std.proofs.Common.{◌≡◌, ℕ, zero, suc, ◌+◌, ◌<◌, ◌≤◌, ◌==◌, Bool, true, false, not, List, [], ◌∷◌, ◌++◌, length, inl, inr, eq-eqb, refl, ap, subst, arith}
use Rattle.std.proofs.lemmas.Bool.{and_from, and_parts, cases_eq, eqb-true, false_from_ne_true, ne_eqb, not-true, or_cases, or_left, or_right}
use Rattle.trick_check_order.proofs.Has.{has_kept, has_push}
use Rattle.trick_check_order.proofs.Steps.{true_false}
use Rattle.trick_check_order.specs.Calls.{are_distinct, has, stand_after}
use Rattle.trick_check_order.specs.Searching.{total}

abbrev one : Bool → ℕ
one true = 1
one false = 0

-- how often the number stands in the list
abbrev times : List ℕ → ℕ → ℕ
times [] k = 0
times (x ∷ xs) k = one (x == k) + times xs k

total_none : (n : ℕ) → total n (times []) ≡ 0
total_none zero = refl
total_none (suc n) = let h = total_none n in omega (arith, h)

total_sum : (n : ℕ) (x : ℕ) (xs : List ℕ) → total n (times (x ∷ xs)) ≡ total n (λ k. one (x == k)) + total n (times xs)
total_sum zero x xs = refl
total_sum (suc n) x xs = let h = total_sum n x xs in omega (arith, h)

total_past : (n x : ℕ) → n ≤ x → total n (λ k. one (x == k)) ≡ 0
total_past zero x h = refl
total_past (suc n) x h =
    let other : one (x == n) ≡ 0 = ap one (ne_eqb x n (λ e. omega (arith, e))) in
    omega (arith, other, total_past n x (omega arith))

total_one : (n x : ℕ) → x < n → total n (λ k. one (x == k)) ≡ 1
total_one zero x h = absurd (omega arith)
total_one (suc n) x h = elim (cases_eq x n) [ inl e ↦ (let here : one (x == n) ≡ 1 = ap one (eq-eqb x n e) in omega (arith, here, total_past n x (omega (arith, e)))) | inr e ↦ (let other : one (x == n) ≡ 0 = ap one (ne_eqb x n e) in omega (arith, other, total_one n x (omega (arith, e)))) ]

total_times : (xs : List ℕ) (n : ℕ) → ((k : ℕ) → has xs k ≡ true → k < n) → total n (times xs) ≡ length xs
total_times [] n low = total_none n
total_times (x ∷ xs) n low =
    let here : x < n = low x (or_left _ _ (eq-eqb x x refl)) in
    omega (arith, total_sum n x xs, total_one n x here, total_times xs n (λ k h. low k (or_right _ _ h)))

times_none : (xs : List ℕ) (k : ℕ) → has xs k ≡ false → times xs k ≡ 0
times_none [] k h = refl
times_none (x ∷ xs) k h =
    let other : one (x == k) ≡ 0 = ap one (false_from_ne_true _ (λ e. true_false _ (or_left _ (has xs k) e) h)) in
    omega (arith, other, times_none xs k (false_from_ne_true _ (λ e. true_false _ (or_right (x == k) _ e) h)))

times_low : (xs : List ℕ) (k : ℕ) → are_distinct xs ≡ true → times xs k ≤ 1
times_low [] k h = omega arith
times_low (x ∷ xs) k h = elim (cases_eq x k) [ inl e ↦ (let here : one (x == k) ≡ 1 = ap one (eq-eqb x k e) in omega (arith, here, times_none xs k (subst (λ j. has xs j ≡ false) e (not-true _ (and_parts _ _ h).0)))) | inr e ↦ (let other : one (x == k) ≡ 0 = ap one (ne_eqb x k e) in omega (arith, other, times_low xs k (and_parts _ _ h).1)) ]

total_low : (n : ℕ) (xs : List ℕ) → are_distinct xs ≡ true → total n (times xs) ≤ n
total_low zero xs h = omega arith
total_low (suc n) xs h = omega (arith, times_low xs n h, total_low n xs h)

pub distinct_short : (xs : List ℕ) (n : ℕ) → are_distinct xs ≡ true → ((k : ℕ) → has xs k ≡ true → k < n) → length xs ≤ n
distinct_short xs n apart low = omega (arith, total_times xs n low, total_low n xs apart)

-- ---- those that stand once are distinct

stand_apart : (g : List (List ℕ)) (seen ms : List ℕ) (k : ℕ) → stand_after g seen ms ≡ true → has ms k ≡ true → has seen k ≡ false
stand_apart g seen [] k s h = absurd (cc h)
stand_apart g seen (m ∷ ms) k s h = elim (or_cases (m == k) _ h) [ inl p ↦ subst (λ j. has seen j ≡ false) (eqb-true m k p) (not-true _ (and_parts _ _ (and_parts _ _ s).0).0) | inr p ↦ false_from_ne_true _ (λ q. true_false _ (has_kept seen (m ∷ []) k q) (stand_apart g (seen ++ m ∷ []) ms k (and_parts _ _ s).1 p)) ]

pub stand_distinct : (g : List (List ℕ)) (seen ms : List ℕ) → stand_after g seen ms ≡ true → are_distinct ms ≡ true
stand_distinct g seen [] s = refl
stand_distinct g seen (m ∷ ms) s = and_from _ _ (ap not (false_from_ne_true _ (λ h. true_false _ (has_push seen m) (stand_apart g (seen ++ m ∷ []) ms m (and_parts _ _ s).1 h)))) (stand_distinct g (seen ++ m ∷ []) ms (and_parts _ _ s).1)
