-- Jobs in key order: each job of a list comes before, or after, each other one.
use Rattle.std.proofs.Common.{◌≡◌, ◌⊎◌, inl, inr, ℕ, ◌==◌, nat_lt, List, [], ◌∷◌, IsTrue, refl, subst, arith}
use Rattle.std.proofs.lemmas.Bool.{and_from, and_parts, eq-eqb, eqb-true, or_cases, or_left, or_right}
use Rattle.trick_lang.specs.declared.job.Job.{Job}
use Rattle.trick_model.specs.Laws.{AreInKeyOrder, IsBefore, is_among}
use Rattle.trick_model.specs.Order.{is_below, key, precedes}
use Rattle.trick_model.specs.Plan.{job_at}

-- ---- keys

not_below_itself : (ks : List ℕ) → IsTrue (is_below ks ks) → ⊥
not_below_itself [] h = cc
not_below_itself (k ∷ ks) h = elim (or_cases (nat_lt k k) _ h) [
  | inl less ↦ grind (arith, less)
  | inr rest ↦ not_below_itself ks (and_parts (k == k) _ rest).1
]

below_below : (xs ys zs : List ℕ) → IsTrue (is_below xs ys) → IsTrue (is_below ys zs) → IsTrue (is_below xs zs)
below_below [] ys zs h g = cc
below_below (x ∷ xs) [] zs h g = cc
below_below (x ∷ xs) (y ∷ ys) [] h g = cc
below_below (x ∷ xs) (y ∷ ys) (z ∷ zs) h g = elim (or_cases (nat_lt x y) _ h) [
  | inl less ↦ elim (or_cases (nat_lt y z) _ g) [
    | inl more ↦ or_left (nat_lt x z) _ (grind (arith, less, more))
    | inr rest ↦ let same = (and_parts (y == z) _ rest).0 in or_left (nat_lt x z) _ (grind (arith, less, same))
  ]
  | inr first ↦ let equal = (and_parts (x == y) _ first).0 in elim (or_cases (nat_lt y z) _ g) [
    | inl more ↦ or_left (nat_lt x z) _ (grind (arith, equal, more))
    | inr rest ↦
        let same = (and_parts (y == z) _ rest).0 in
        or_right (nat_lt x z) _ (and_from (x == z) _ (grind (arith, equal, same))
        (below_below xs ys zs (and_parts (x == y) _ first).1 (and_parts (y == z) _ rest).1))
  ]
]

pub not_itself : (jobs : List Job) (k : ℕ) → IsTrue (precedes jobs k k) → ⊥
not_itself jobs k h = not_below_itself (key (job_at jobs k)) h

pub precedes_all : (jobs : List Job) (a b c : ℕ) → IsTrue (precedes jobs a b) → IsTrue (precedes jobs b c) → IsTrue (precedes jobs a c)
precedes_all jobs a b c h g = below_below (key (job_at jobs a)) (key (job_at jobs b)) (key (job_at jobs c)) h g

pub not_both : (jobs : List Job) (a b : ℕ) → IsTrue (precedes jobs a b) → IsTrue (precedes jobs b a) → ⊥
not_both jobs a b h g = not_itself jobs a (precedes_all jobs a b a h g)

-- ---- lists

-- what is among a list is its first entry, or among the others
pub among_cases : (k j : ℕ) (ks : List ℕ) → IsTrue (is_among k (j ∷ ks)) → (j ≡ k) ⊎ IsTrue (is_among k ks)
among_cases k j ks h = elim (or_cases (j == k) _ h) [ inl here ↦ inl (eqb-true j k here) | inr rest ↦ inr rest ]

pub among_rest : (k j : ℕ) (ks : List ℕ) → IsTrue (is_among k ks) → IsTrue (is_among k (j ∷ ks))
among_rest k j ks h = or_right (j == k) _ h

pub among_first : (k : ℕ) (ks : List ℕ) → IsTrue (is_among k (k ∷ ks))
among_first k ks = or_left (k == k) _ (eq-eqb k k refl)

pub none_among : (k : ℕ) → IsTrue (is_among k []) → ⊥
none_among k h = cc

pub before_among : (jobs : List Job) (k : ℕ) (ks : List ℕ) (m : ℕ) → IsBefore jobs k ks → IsTrue (is_among m ks) → IsTrue (precedes jobs k m)
before_among jobs k [] m before among = absurd (none_among m among)
before_among jobs k (j ∷ js) m before among = elim (among_cases m j js among) [
  | inl here ↦ subst (λ (n : ℕ). IsTrue (precedes jobs k n)) here before.0
  | inr rest ↦ before_among jobs k js m before.1 rest
]

-- of two jobs of the list one comes first
pub one_first : (jobs : List Job) (ks : List ℕ) (a b : ℕ) → AreInKeyOrder jobs ks → IsTrue (is_among a ks) → IsTrue (is_among b ks)
    → (a ≡ b) ⊎ (IsTrue (precedes jobs a b) ⊎ IsTrue (precedes jobs b a))
one_first jobs [] a b ordered in_a in_b = absurd (none_among a in_a)
one_first jobs (k ∷ ks) a b ordered in_a in_b = by_cases (among_cases a k ks in_a) (among_cases b k ks in_b)
    (λ ia ib. one_first jobs ks a b ordered.1 ia ib)
  where
    by_cases : (k ≡ a) ⊎ IsTrue (is_among a ks) → (k ≡ b) ⊎ IsTrue (is_among b ks)
        → (IsTrue (is_among a ks) → IsTrue (is_among b ks) → (a ≡ b) ⊎ (IsTrue (precedes jobs a b) ⊎ IsTrue (precedes jobs b a)))
        → (a ≡ b) ⊎ (IsTrue (precedes jobs a b) ⊎ IsTrue (precedes jobs b a))
    by_cases (inl ea) (inl eb) others = inl (omega arith)
    by_cases (inl ea) (inr ib) others =
        inr (inl (subst (λ (n : ℕ). IsTrue (precedes jobs n b)) ea (before_among jobs k ks b ordered.0 ib)))
    by_cases (inr ia) (inl eb) others =
        inr (inr (subst (λ (n : ℕ). IsTrue (precedes jobs n a)) eb (before_among jobs k ks a ordered.0 ia)))
    by_cases (inr ia) (inr ib) others = others ia ib
