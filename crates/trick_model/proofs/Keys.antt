-- No two jobs of a program have one key.
use Rattle.std.proofs.Common.{◌≡◌, ℕ, zero, suc, ◌<◌, ◌==◌, nat_lt, List, [], ◌∷◌, length, Bool, true, false, not, ◌||◌, ◌⊎◌, IsTrue, inl, inr, refl, sym, subst, ap, ◌∙◌}
use Rattle.std.proofs.lemmas.Bool.{and_from, cases_order, eq-eqb, or_left, or_right}
use Rattle.std.proofs.lemmas.List.Sums.{AllPass-from_list_all}
use Rattle.std.specs.List.{list_all, slice_index_or}
use Rattle.trick_base.proofs.Truths.{first_holds, second_holds}
use native.Mathlib.Omega.{arith}
use Rattle.trick_lang.specs.Names.{are_apart, of_one_number}
use Rattle.trick_lang.specs.declared.job.Job.{Job}
use Rattle.trick_model.proofs.Runs.{not_both}
use Rattle.trick_model.specs.Laws.{AreInKeyOrder, AreJobs, HaveSame, IsBefore, KeyOrderIsOne, KeysDiffer, is_among}
use Rattle.trick_model.specs.Order.{in_key_order, is_below, key, precedes, put_in}
use Rattle.trick_model.specs.Plan.{job_at, no_job}
use Rattle.trick_model.specs.declared.plan.Plan.{Plan as PlanValue}

apart_at : (jobs : List Job) (a b : ℕ) → IsTrue (are_apart of_one_number jobs) → a < b → b < length jobs
    → IsTrue (of_one_number (job_at jobs a) (job_at jobs b)) → ⊥
apart_at [] a b apart order fits same = absurd (omega (arith, fits))
apart_at (job ∷ jobs) zero zero apart order fits same = absurd (omega (arith, order))
apart_at (job ∷ jobs) zero (suc b) apart order fits same =
    not_both (of_one_number job (job_at jobs b)) same
    (AllPass-from_list_all (λ other. not (of_one_number job other)) jobs
    (first_holds (list_all (λ other. not (of_one_number job other)) jobs) _ apart) b no_job (omega arith))
apart_at (job ∷ jobs) (suc a) zero apart order fits same = absurd (omega (arith, order))
apart_at (job ∷ jobs) (suc a) (suc b) apart order fits same =
    apart_at jobs a b (second_holds (list_all (λ other. not (of_one_number job other)) jobs) _ apart) (omega arith) (omega arith) same

-- jobs of one key have one object and one number
same_number : (a b : Job) → key a ≡ key b → IsTrue (of_one_number a b)
same_number a b e =
    let objects : a.object ≡ b.object = ap (λ (ns : List ℕ). slice_index_or ns 2 0) e in
    let numbers : a.number ≡ b.number = ap (λ (ns : List ℕ). slice_index_or ns 3 0) e in
    rw (eq-eqb _ _ objects, eq-eqb _ _ numbers) refl

pub keys_differ : KeysDiffer
keys_differ plan a b in_a in_b e = elim (cases_order a b) [
  | inl same ↦ same
  | inr other ↦ elim other [
    | inl less ↦ absurd (apart_at plan.program.jobs a b plan.program.job_numbers less in_b (same_number (job_at plan.program.jobs a) (job_at plan.program.jobs b) e))
    | inr more ↦ absurd (apart_at plan.program.jobs b a plan.program.job_numbers more in_a (same_number (job_at plan.program.jobs b) (job_at plan.program.jobs a) (sym e)))
  ]
]

-- ---- the order of keys

or_cases : (x y : Bool) → IsTrue (x || y) → IsTrue x ⊎ IsTrue y
or_cases true y h = inl refl
or_cases false y h = inr h

never_below : (ks : List ℕ) → IsTrue (is_below ks ks) → ⊥
never_below [] h = grind (arith, h)
never_below (k ∷ ks) h = elim (or_cases (nat_lt k k) _ h) [
  | inl less ↦ grind (arith, less)
  | inr rest ↦ never_below ks (second_holds (k == k) _ rest)
]

below_below : (xs ys zs : List ℕ) → IsTrue (is_below xs ys) → IsTrue (is_below ys zs) → IsTrue (is_below xs zs)
below_below [] ys zs h g = grind (arith, h)
below_below (x ∷ xs) [] zs h g = grind (arith, h)
below_below (x ∷ xs) (y ∷ ys) [] h g = grind (arith, g)
below_below (x ∷ xs) (y ∷ ys) (z ∷ zs) h g = elim (or_cases (nat_lt x y) _ h) [
  | inl less ↦ elim (or_cases (nat_lt y z) _ g) [
    | inl more ↦ or_left (nat_lt x z) _ (grind (arith, less, more))
    | inr rest ↦ let same = first_holds (y == z) _ rest in or_left (nat_lt x z) _ (grind (arith, less, same))
  ]
  | inr first ↦ let equal_first = first_holds (x == y) _ first in elim (or_cases (nat_lt y z) _ g) [
    | inl more ↦ or_left (nat_lt x z) _ (grind (arith, equal_first, more))
    | inr rest ↦
        let same = first_holds (y == z) _ rest in
        or_right (nat_lt x z) _ (and_from (x == z) _ (grind (arith, equal_first, same))
        (below_below xs ys zs (second_holds (x == y) _ first) (second_holds (y == z) _ rest)))
  ]
]

-- of two different keys of one length one is below the other
one_below : (xs ys : List ℕ) → length xs ≡ length ys → (xs ≡ ys → ⊥) → (IsTrue (is_below xs ys) → ⊥) → IsTrue (is_below ys xs)
one_below [] [] long differ not = absurd (differ refl)
one_below [] (y ∷ ys) long differ not = absurd (omega (arith, long))
one_below (x ∷ xs) [] long differ not = absurd (omega (arith, long))
one_below (x ∷ xs) (y ∷ ys) long differ not = elim (cases_order x y) [
  | inl same ↦ or_right (nat_lt y x) _ (and_from (y == x) _ (grind (arith, same))
      (one_below xs ys (omega (arith, long)) (λ e. differ (λ i. same i ∷ e i))
      (λ h. not (or_right (nat_lt x y) _ (and_from (x == y) _ (grind (arith, same)) h)))))
  | inr other ↦ elim other [
    | inl less ↦ absurd (not (or_left (nat_lt x y) _ (grind (arith, less))))
    | inr more ↦ or_left (nat_lt y x) _ (grind (arith, more))
  ]
]

-- ---- one list in key order

before_among : (jobs : List Job) (k : ℕ) (ks : List ℕ) (m : ℕ) → IsBefore jobs k ks → IsTrue (is_among m ks) → IsTrue (precedes jobs k m)
before_among jobs k [] m before among = grind (arith, among)
before_among jobs k (j ∷ js) m before among = elim (or_cases (j == m) _ among) [
  | inl here ↦ let same : j ≡ m = grind (arith, here) in subst (λ (n : ℕ). IsTrue (precedes jobs k n)) same before.0
  | inr rest ↦ before_among jobs k js m before.1 rest
]

before_all : (jobs : List Job) (k j : ℕ) (js : List ℕ) → IsTrue (precedes jobs k j) → IsBefore jobs j js → IsBefore jobs k js
before_all jobs k j [] first before = tt
before_all jobs k j (m ∷ ms) first before =
    (below_below (key (job_at jobs k)) (key (job_at jobs j)) (key (job_at jobs m)) first before.0, before_all jobs k j ms first before.1)

not_among : (jobs : List Job) (k : ℕ) (ks : List ℕ) → IsBefore jobs k ks → is_among k ks ≡ false
not_among jobs k ks before = by_test (is_among k ks) refl
  where
    by_test : (b : Bool) → is_among k ks ≡ b → b ≡ false
    by_test true e = absurd (never_below (key (job_at jobs k)) (before_among jobs k ks k before e))
    by_test false e = refl

tails_same : (x k : ℕ) (xs ys : List ℕ) → is_among x xs ≡ false → is_among x ys ≡ false
    → ((x == k) || is_among k xs) ≡ ((x == k) || is_among k ys) → is_among k xs ≡ is_among k ys
tails_same x k xs ys out_x out_y e = by_test (x == k) refl e
  where
    by_test : (b : Bool) → (x == k) ≡ b → (b || is_among k xs) ≡ (b || is_among k ys) → is_among k xs ≡ is_among k ys
    by_test true here e = let same : x ≡ k = grind (arith, here) in
        ap (λ (n : ℕ). is_among n xs) (sym same) ∙ out_x ∙ sym out_y ∙ ap (λ (n : ℕ). is_among n ys) same
    by_test false here e = e

one_order : (jobs : List Job) (ks js : List ℕ) → AreInKeyOrder jobs ks → AreInKeyOrder jobs js → HaveSame ks js → ks ≡ js
one_order jobs [] [] hk hj same = refl
one_order jobs [] (j ∷ js) hk hj same = let e : false ≡ ((j == j) || is_among j js) = same j in grind (arith, e)
one_order jobs (k ∷ ks) [] hk hj same = let e : ((k == k) || is_among k ks) ≡ false = same k in grind (arith, e)
one_order jobs (k ∷ ks) (j ∷ js) hk hj same = by_heads (λ same_rest. one_order jobs ks js hk.1 hj.1 same_rest) (cases_order k j)
  where
    among_first : (n : ℕ) (ns : List ℕ) → IsTrue ((n == n) || is_among n ns)
    among_first n ns = or_left (n == n) _ (eq-eqb n n refl)

    k_in : IsTrue ((j == k) || is_among k js)
    k_in = sym (same k) ∙ among_first k ks

    j_in : IsTrue ((k == j) || is_among j ks)
    j_in = same j ∙ among_first j js

    not_equal : (k ≡ j → ⊥) → ⊥
    not_equal differ = elim (or_cases (j == k) _ k_in) [
      | inl here ↦ differ (grind (arith, here))
      | inr after_j ↦ elim (or_cases (k == j) _ j_in) [
        | inl here ↦ differ (grind (arith, here))
        | inr after_k ↦ never_below (key (job_at jobs k))
            (below_below (key (job_at jobs k)) (key (job_at jobs j)) (key (job_at jobs k))
            (before_among jobs k ks j hk.0 after_k) (before_among jobs j js k hj.0 after_j))
      ]
    ]

    equal_heads : (HaveSame ks js → ks ≡ js) → k ≡ j → k ∷ ks ≡ j ∷ js
    equal_heads others e =
        let before : IsBefore jobs k js = subst (λ (n : ℕ). IsBefore jobs n js) (sym e) hj.0 in
        let moved : HaveSame (k ∷ ks) (k ∷ js) = subst (λ (n : ℕ). HaveSame (k ∷ ks) (n ∷ js)) (sym e) same in
        let rest = others (λ m. tails_same k m ks js (not_among jobs k ks hk.0) (not_among jobs k js before) (moved m)) in
        λ i. e i ∷ rest i

    by_heads : (HaveSame ks js → ks ≡ js) → (k ≡ j) ⊎ ((k < j) ⊎ (j < k)) → k ∷ ks ≡ j ∷ js
    by_heads others (inl e) = equal_heads others e
    by_heads others (inr (inl less)) = absurd (not_equal (λ e. omega (arith, less, e)))
    by_heads others (inr (inr more)) = absurd (not_equal (λ e. omega (arith, more, e)))

-- ---- sorting

or_swap : (x y z : Bool) → x || (y || z) ≡ y || (x || z)
or_swap true true z = refl
or_swap true false z = refl
or_swap false true z = refl
or_swap false false z = refl

put_same : (jobs : List Job) (k m : ℕ) (js : List ℕ) → ((k == m) || is_among m js) ≡ is_among m (put_in jobs k js)
put_same jobs k m [] = refl
put_same jobs k m (j ∷ js) = by_test (put_same jobs k m js) (precedes jobs k j)
  where
    by_test : ((k == m) || is_among m js) ≡ is_among m (put_in jobs k js) → (b : Bool) → ((k == m) || ((j == m) || is_among m js)) ≡ is_among m (elim b [ true ↦ k ∷ j ∷ js | false ↦ j ∷ put_in jobs k js ])
    by_test others true = refl
    by_test others false = or_swap (k == m) (j == m) (is_among m js) ∙ ap (λ (b : Bool). (j == m) || b) others

order_same : (jobs : List Job) (ks : List ℕ) → HaveSame ks (in_key_order jobs ks)
order_same jobs [] m = refl
order_same jobs (k ∷ ks) m = ap (λ (b : Bool). (k == m) || b) (order_same jobs ks m) ∙ put_same jobs k m (in_key_order jobs ks)

-- a job's key differs from those of these jobs
abbrev Differs : List Job → ℕ → List ℕ → Type 0
Differs jobs k js = (m : ℕ) → IsTrue (is_among m js) → key (job_at jobs k) ≡ key (job_at jobs m) → ⊥

before_put : (jobs : List Job) (j k : ℕ) (js : List ℕ) → IsTrue (precedes jobs j k) → IsBefore jobs j js → IsBefore jobs j (put_in jobs k js)
before_put jobs j k [] first before = (first, tt)
before_put jobs j k (m ∷ ms) first before = by_test (before_put jobs j k ms first before.1) (precedes jobs k m)
  where
    by_test : IsBefore jobs j (put_in jobs k ms) → (b : Bool) → IsBefore jobs j (elim b [ true ↦ k ∷ m ∷ ms | false ↦ m ∷ put_in jobs k ms ])
    by_test others true = (first, before)
    by_test others false = (before.0, others)

put_ordered : (jobs : List Job) (k : ℕ) (js : List ℕ) → Differs jobs k js → AreInKeyOrder jobs js → AreInKeyOrder jobs (put_in jobs k js)
put_ordered jobs k [] differ ordered = (tt, tt)
put_ordered jobs k (j ∷ js) differ ordered =
    by_test (put_ordered jobs k js (λ m among. differ m (or_right (j == m) _ among)) ordered.1) (precedes jobs k j) refl
  where
    by_test : AreInKeyOrder jobs (put_in jobs k js) → (b : Bool) → precedes jobs k j ≡ b → AreInKeyOrder jobs (elim b [ true ↦ k ∷ j ∷ js | false ↦ j ∷ put_in jobs k js ])
    by_test others true e = ((e, before_all jobs k j js e ordered.0), ordered)
    by_test others false e =
        let later : IsTrue (precedes jobs j k) =
        one_below (key (job_at jobs k)) (key (job_at jobs j)) refl
        (differ j (or_left (j == j) _ (eq-eqb j j refl))) (λ h. grind (arith, e, h)) in
        (before_put jobs j k js later ordered.0, others)

jobs_there : (jobs : List Job) (ks : List ℕ) (m : ℕ) → AreJobs jobs ks → IsTrue (is_among m ks) → m < length jobs
jobs_there jobs [] m are among = grind (arith, among)
jobs_there jobs (k ∷ ks) m are among = elim (or_cases (k == m) _ among) [
  | inl here ↦ let same : k ≡ m = grind (arith, here) in subst (λ (n : ℕ). n < length jobs) same are.0
  | inr rest ↦ jobs_there jobs ks m are.2 rest
]

order_ordered : (plan : PlanValue) (ks : List ℕ) → AreJobs plan.program.jobs ks → AreInKeyOrder plan.program.jobs (in_key_order plan.program.jobs ks)
order_ordered plan [] are = tt
order_ordered plan (k ∷ ks) are =
    let jobs = plan.program.jobs in
    put_ordered jobs k (in_key_order jobs ks)
    (λ m among e.
    let there : IsTrue (is_among m ks) = order_same jobs ks m ∙ among in
    let same = keys_differ plan k m are.0 (jobs_there jobs ks m are.2 there) e in
    let here : IsTrue (is_among k ks) = ap (λ (n : ℕ). is_among n ks) same ∙ there in
    grind (arith, here, are.1))
    (order_ordered plan ks are.2)

pub key_order_is_one : KeyOrderIsOne
key_order_is_one = record { ordered = order_ordered; same = order_same; one = one_order }
