-- Lists, their items, and numbers in them.
use Rattle.std.proofs.Common.{◌≡◌, ◌≢◌, ◌⊎◌, ℕ, zero, suc, ◌+◌, ◌<◌, ◌≤◌, ◌==◌, Bool, true, false, not, ◌&&◌, ◌||◌, if◌then◌else◌, List, [], ◌∷◌, ◌++◌, length, Some, slice_get, inl, inr, refl, ap, sym, ◌∙◌, subst, arith, eq-eqb}
use Rattle.std.proofs.lemmas.Bool.{and_parts, eqb-true, not-true, or_cases, or_left, or_right}
use Rattle.trick_check_order.specs.Calls.{all_in, callees, has, stand_after}

-- ---- tests

-- ---- lists

pub two : {A : Type 0} {a b c d : List A} → a ≡ b → c ≡ d → a ++ c ≡ b ++ d
two {A} {a} {b} {c} {d} h k = ap (λ q. q ++ c) h ∙ ap (λ q. b ++ q) k

pub none_both : {A : Type 0} (xs ys : List A) → xs ≡ [] → ys ≡ [] → xs ++ ys ≡ []
none_both xs ys h k = ap (λ q. q ++ ys) h ∙ k

-- the item behind others
pub get_behind : {A : Type 0} (before behind : List A) (x : A)
    → slice_get (before ++ x ∷ behind) (length before) ≡ Some x
get_behind [] behind x = refl
get_behind (b ∷ before) behind x = get_behind before behind x

-- an item of two lists is one of either
pub get_case : {A : Type 0} (xs ys : List A) (i : ℕ) (x : A) → slice_get (xs ++ ys) i ≡ Some x
    → (slice_get xs i ≡ Some x) ⊎ ((j : ℕ) × (slice_get ys j ≡ Some x))
get_case [] ys i x h = inr (i, h)
get_case (z ∷ xs) ys zero x h = inl h
get_case (z ∷ xs) ys (suc i) x h = get_case xs ys i x h

-- ---- numbers of a list

pub has_push : (xs : List ℕ) (c k : ℕ) → has (xs ++ c ∷ []) k ≡ true → (has xs k ≡ true) ⊎ (c ≡ k)
has_push [] c k h = elim (or_cases (c == k) false h) [ inl p ↦ inr (eqb-true c k p) | inr p ↦ absurd (cc p) ]
has_push (x ∷ xs) c k h = by (or_cases (x == k) _ h) (λ p. has_push xs c k p) where
  more : (has xs k ≡ true) ⊎ (c ≡ k) → (((x == k) || has xs k) ≡ true) ⊎ (c ≡ k)
  more (inl p) = inl (or_right (x == k) _ p)
  more (inr p) = inr p

  by : ((x == k) ≡ true) ⊎ (has (xs ++ c ∷ []) k ≡ true) → (has (xs ++ c ∷ []) k ≡ true → (has xs k ≡ true) ⊎ (c ≡ k))
      → (((x == k) || has xs k) ≡ true) ⊎ (c ≡ k)
  by (inl p) rest = inl (or_left (x == k) _ p)
  by (inr p) rest = more (rest p)

has_kept : (xs ys : List ℕ) (k : ℕ) → has xs k ≡ true → has (xs ++ ys) k ≡ true
has_kept [] ys k h = absurd (cc h)
has_kept (x ∷ xs) ys k h = by (or_cases (x == k) _ h) (λ p. has_kept xs ys k p) where
  by : ((x == k) ≡ true) ⊎ (has xs k ≡ true) → (has xs k ≡ true → has (xs ++ ys) k ≡ true)
      → ((x == k) || has (xs ++ ys) k) ≡ true
  by (inl p) rest = or_left (x == k) _ p
  by (inr p) rest = or_right (x == k) _ (rest p)

has_last : (xs : List ℕ) (c : ℕ) → has (xs ++ c ∷ []) c ≡ true
has_last [] c = or_left (c == c) false (eq-eqb c c refl)
has_last (x ∷ xs) c = or_right (x == c) _ (has_last xs c)

pub all_in_two : (xs ys seen : List ℕ) → all_in (xs ++ ys) seen ≡ true
    → (all_in xs seen ≡ true) × (all_in ys seen ≡ true)
all_in_two [] ys seen h = (refl, h)
all_in_two (x ∷ xs) ys seen h =
    let first = and_parts (has seen x) (all_in (xs ++ ys) seen) h in
    let rest = all_in_two xs ys seen first.1 in
    (ap (λ b. b && all_in xs seen) first.0 ∙ rest.0, rest.1)

-- ---- an order is no longer than there are numbers

-- how many numbers below n are not in the list
abbrev free : ℕ → List ℕ → ℕ
free zero seen = 0
free (suc n) seen = (if has seen n then 0 else 1) + free n seen

one_free : (b c : Bool) → (b ≡ true → c ≡ true) → (if c then 0 else 1) ≤ (if b then 0 else 1)
one_free true true f = omega arith
one_free true false f = absurd (cc (f refl))
one_free false true f = omega arith
one_free false false f = omega arith

free_less : (n : ℕ) (seen : List ℕ) (m : ℕ) → free n (seen ++ m ∷ []) ≤ free n seen
free_less zero seen m = omega arith
free_less (suc n) seen m =
    let here = one_free (has seen n) (has (seen ++ m ∷ []) n) (has_kept seen (m ∷ []) n) in
    let rest = free_less n seen m in
    omega (arith, here, rest)

one_taken : (b c : Bool) → b ≡ false → c ≡ true → 1 + (if c then 0 else 1) ≤ (if b then 0 else 1)
one_taken true c h k = absurd (cc h)
one_taken false true h k = omega arith
one_taken false false h k = absurd (cc k)

free_taken : (n : ℕ) (seen : List ℕ) (m : ℕ) → m < n → has seen m ≡ false → 1 + free n (seen ++ m ∷ []) ≤ free n seen
free_taken zero seen m low out = absurd (omega (arith, low))
free_taken (suc n) seen m low out = by (n == m) refl (λ less. free_taken n seen m less out) where
  by : (b : Bool) → (n == m) ≡ b → (m < n → 1 + free n (seen ++ m ∷ []) ≤ free n seen)
      → 1 + ((if has (seen ++ m ∷ []) n then 0 else 1) + free n
      (seen ++ m ∷ [])) ≤ (if has seen n then 0 else 1) + free n seen
  by true e more =
      let same : m ≡ n = sym (eqb-true n m e) in
      let out_here : has seen n ≡ false = subst (λ j. has seen j ≡ false) same out in
      let in_here : has (seen ++ m ∷ []) n ≡ true = subst (λ j. has (seen ++ m ∷ []) j ≡ true) same (has_last seen m) in
      let here = one_taken (has seen n) (has (seen ++ m ∷ []) n) out_here in_here in
      let rest = free_less n seen m in
      omega (arith, here, rest)
  by false e more =
      let other : n ≢ m = λ same. cc (sym e ∙ eq-eqb n m same) in
      let here = one_free (has seen n) (has (seen ++ m ∷ []) n) (has_kept seen (m ∷ []) n) in
      let rest = more (omega (arith, low, other)) in
      omega (arith, here, rest)

free_all : (n : ℕ) → free n [] ≤ n
free_all zero = omega arith
free_all (suc n) = omega (arith, free_all n)

-- the first of an order, and the others
pub stand_first : (g : List (List ℕ)) (seen : List ℕ) (m : ℕ) (ms : List ℕ) → stand_after g seen (m ∷ ms) ≡ true
    → (has seen m ≡ false) × (all_in (callees g m) seen ≡ true) × (stand_after g (seen ++ m ∷ []) ms ≡ true)
stand_first g seen m ms h =
    let parts = and_parts (not (has seen m) && all_in (callees g m) seen) (stand_after g (seen ++ m ∷ []) ms) h in
    let first = and_parts (not (has seen m)) (all_in (callees g m) seen) parts.0 in
    (not-true (has seen m) first.0, first.1, parts.1)

order_within : (g : List (List ℕ)) (n : ℕ) (order seen : List ℕ) → stand_after g seen order ≡ true
    → ((k : ℕ) → has order k ≡ true → k < n) → length order ≤ free n seen
order_within g n [] seen stands low = omega arith
order_within g n (m ∷ ms) seen stands low =
    let first = stand_first g seen m ms stands in
    let here = free_taken n seen m (low m (or_left (m == m) _ (eq-eqb m m refl))) first.0 in
    let rest = order_within g n ms (seen ++ m ∷ []) first.2 (λ k h. low k (or_right (m == k) _ h)) in
    omega (arith, here, rest)

pub order_short : (g : List (List ℕ)) (n : ℕ) (order : List ℕ) → stand_after g [] order ≡ true
    → ((k : ℕ) → has order k ≡ true → k < n) → length order ≤ n
order_short g n order stands low = omega (arith, order_within g n order [] stands low, free_all n)
