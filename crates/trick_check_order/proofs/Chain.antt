-- Where no method reaches itself, each stands in some round.
use Rattle.std.proofs.Common.{◌≡◌, ℕ, zero, suc, ◌<◌, ◌≤◌, ◌==◌, Bool, true, false, not, List, [], ◌∷◌, length, inl, inr, refl, ap, sym, ◌∙◌, subst, arith}
use Rattle.std.proofs.lemmas.Bool.{and_cases, and_from, and_parts, cases_Bool, eqb-true, false_from_ne_true, or_cases, or_left, or_right}
use Rattle.std.specs.List.{range_with_len}
use Rattle.trick_check_order.proofs.Apart.{distinct_short}
use Rattle.trick_check_order.proofs.Has.{has_kept}
use Rattle.trick_check_order.proofs.Placed.{has_filter, has_later, has_range, rounds_below, rounds_stand}
use Rattle.trick_check_order.proofs.Steps.{true_false}
use Rattle.trick_check_order.specs.Calls.{AreCallees, IsOrderOf, Reaches, ReachesItself, all_in, are_distinct, callees, first_rounds, has, is_linked, is_next, order_of}

missing : (cs q : List ℕ) → all_in cs q ≡ false → (c : ℕ) × (has cs c ≡ true) × (has q c ≡ false)
missing [] q h = absurd (cc h)
missing (x ∷ cs) q h = elim (and_cases _ _ h) [ inl p ↦ (x, or_left _ _ (Rattle.std.proofs.Common.eq-eqb x x refl), p) | inr p ↦ (let m = missing cs q p in (m.0, or_right _ _ m.1, m.2)) ]

-- so many calls in a row, which begin with k
pub record Chain (g : List (List ℕ)) (k n : ℕ) : Type 0 where
  pub rest : List ℕ
  pub long : length rest ≡ n
  pub linked : is_linked g (k ∷ rest) ≡ true
  pub there : (j : ℕ) → has (k ∷ rest) j ≡ true → j < length g

-- one that stands in no round so far, nor in the next one, calls one that stands in none so far
open_call : (g : List (List ℕ)) (n k : ℕ) → k < length g → has (first_rounds g (suc n)) k ≡ false → (c : ℕ) × (has (callees g k) c ≡ true) × (has (first_rounds g n) c ≡ false)
open_call g n k low out = missing (callees g k) (first_rounds g n) (false_from_ne_true _ (λ all. true_false _ (and_from _ _ (ap not earlier) all) not_next)) where
  earlier : has (first_rounds g n) k ≡ false
  earlier = false_from_ne_true _ (λ h. true_false _ (has_kept (first_rounds g n) _ k h) out)

  not_next : is_next g (first_rounds g n) k ≡ false
  not_next = false_from_ne_true _ (λ t. true_false _ (has_later (first_rounds g n) _ k (has_filter (is_next g (first_rounds g n)) (range_with_len 0 (length g)) k (has_range (length g) 0 k (omega arith) (omega arith)) t)) out)

longer : (g : List (List ℕ)) (n k c : ℕ) → k < length g → has (callees g k) c ≡ true → Chain g c n → Chain g k (suc n)
longer g n k c low call next = record {
  rest = c ∷ next.rest;
  long = ap suc next.long;
  linked = and_from _ _ call next.linked;
  there = λ j h. elim (or_cases (k == j) _ h) [ inl p ↦ subst (λ i. i < length g) (eqb-true k j p) low | inr p ↦ next.there j p ];
}

-- one that stands in none of the first rounds begins as many calls in a row
chain : (g : List (List ℕ)) → AreCallees g → (n k : ℕ) → k < length g → has (first_rounds g n) k ≡ false → Chain g k n
chain g are zero k low out = record {
  rest = [];
  long = refl;
  linked = refl;
  there = λ j h. elim (or_cases (k == j) false h) [ inl p ↦ subst (λ i. i < length g) (eqb-true k j p) low | inr p ↦ absurd (cc p) ];
}
chain g are (suc n) k low out = let call = open_call g n k low out in longer g n k call.0 low call.1 (chain g are n call.0 (are k call.0 call.1) call.2)

-- ---- a method that stands twice reaches itself

linked_to : (g : List (List ℕ)) (x : ℕ) (ys : List ℕ) (k : ℕ) → is_linked g (x ∷ ys) ≡ true → has ys k ≡ true → (n : ℕ) × Reaches g n x k
linked_to g x [] k l h = absurd (cc h)
linked_to g x (y ∷ ys) k l h = elim (or_cases (y == k) _ h) [ inl p ↦ (0, subst (λ j. has (callees g x) j ≡ true) (eqb-true y k p) (and_parts _ _ l).0) | inr p ↦ (let r = linked_to g y ys k (and_parts _ _ l).1 p in (suc r.0, (y, (and_parts _ _ l).0, r.1))) ]

tail_linked : (g : List (List ℕ)) (x : ℕ) (ys : List ℕ) → is_linked g (x ∷ ys) ≡ true → is_linked g ys ≡ true
tail_linked g x [] l = refl
tail_linked g x (y ∷ ys) l = (and_parts _ _ l).1

repeats : (g : List (List ℕ)) (xs : List ℕ) → is_linked g xs ≡ true → are_distinct xs ≡ false → (a : ℕ) × ReachesItself g a
repeats g [] l d = absurd (cc d)
repeats g (x ∷ xs) l d = elim (cases_Bool (has xs x)) [ inl p ↦ (x, linked_to g x xs x l p) | inr p ↦ repeats g xs (tail_linked g x xs l) (false_from_ne_true _ (λ t. true_false _ (and_from _ _ (ap not p) t) d)) ]

too_long : (g : List (List ℕ)) (k : ℕ) → Chain g k (length g) → (a : ℕ) × ReachesItself g a
too_long g k c = repeats g (k ∷ c.rest) c.linked (false_from_ne_true _ (λ t. absurd (omega (arith, c.long, distinct_short (k ∷ c.rest) (length g) t c.there))))

pub free_order : (g : List (List ℕ)) → AreCallees g → ((k : ℕ) → ReachesItself g k → ⊥) → IsOrderOf g (order_of g)
free_order g are free = (rounds_stand g (length g), λ k low. stands k low, λ k h. rounds_below g (length g) k h) where
  stands : (k : ℕ) → k < length g → has (order_of g) k ≡ true
  stands k low = elim (cases_Bool (has (order_of g) k)) [ inl p ↦ p | inr p ↦ (let r = too_long g k (chain g are (length g) k low p) in absurd (free r.0 r.1)) ]
