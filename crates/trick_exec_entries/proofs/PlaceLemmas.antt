-- Where the session of a number stands.
use Rattle.std.proofs.Common.{◌≡◌, ℕ, zero, suc, ◌<◌, ◌≤◌, ◌&&◌, List, [], ◌∷◌, ◌++◌, length, get_or, set, nat_lt, Bool, true, false, Some, None, Less, Equal, Greater, ap, arith, refl, sym}
use Rattle.std.proofs.lemmas.Bool.{and_parts, eq-eqb, ltb-true, ne_eqb}
use Rattle.std.proofs.lemmas.Bool.Decides.{nat_tests}
use Rattle.std.proofs.lemmas.Cmp.{ranked}
use Rattle.std.specs.List.Sorted.{IsNonDecreasingBy, IsPartitionPoint}
use Rattle.std.specs.Ordering.{nat_cmp, ordering_index}
use Rattle.std.specs.Prelude.{HoldsAt}
use Rattle.trick_exec_entries.specs.Places.{IsPlaceOf}
use Rattle.trick_exec_entries.specs.Sessions.{numbers_of}
use Rattle.trick_model.specs.Session.{joined}
use Rattle.trick_model.specs.Turn.{changed, session_of}
use Rattle.trick_model.specs.Valid.{rises}
use Rattle.trick_model.specs.declared.session.Session.{Session}

-- ---- numbers that rise

pub rises_tail : (n : ℕ) (ns : List ℕ) → rises (n ∷ ns) ≡ true → rises ns ≡ true
rises_tail n [] r = refl
rises_tail n (m ∷ ns) r = (and_parts (nat_lt n m) (rises (m ∷ ns)) r).1

pub rises_head : (n m : ℕ) (ns : List ℕ) → rises (n ∷ m ∷ ns) ≡ true → n < m
rises_head n m ns r = ltb-true n m (and_parts (nat_lt n m) (rises (m ∷ ns)) r).0

joined_both : (a b c d : Bool) → (a ≡ true → c ≡ true) → (b ≡ true → d ≡ true) → (a && b) ≡ true → (c && d) ≡ true
joined_both a b c d one two h = let parts = and_parts a b h in and_true c d (one parts.0) (two parts.1)
  where
    and_true : (c d : Bool) → c ≡ true → d ≡ true → (c && d) ≡ true
    and_true true d e f = f
    and_true false d e f = cc e

-- the front of numbers that rise
pub rises_front : (ns ms : List ℕ) → rises (ns ++ ms) ≡ true → rises ns ≡ true
rises_front [] ms r = refl
rises_front (n ∷ []) ms r = refl
rises_front (n ∷ m ∷ ns) ms r =
    joined_both (nat_lt n m) (rises (m ∷ (ns ++ ms))) (nat_lt n m) (rises (m ∷ ns)) (λ e. e) (λ e. rises_front (m ∷ ns) ms e) r

first_below : (n : ℕ) (ss : List Session) → rises (n ∷ numbers_of ss) ≡ true → (j : ℕ) (d : Session) → j < length ss → n < (get_or ss j d).number
first_below n [] r j d there = absurd (omega (arith, there))
first_below n (s ∷ ss) r zero d there = rises_head n s.number (numbers_of ss) r
first_below n (s ∷ ss) r (suc j) d there =
    let one = rises_head n s.number (numbers_of ss) r in
    let more = first_below s.number ss (rises_tail n (numbers_of (s ∷ ss)) r) j d (omega (arith, there)) in
    omega (arith, one, more)

pub strict : (ss : List Session) → rises (numbers_of ss) ≡ true → (i j : ℕ) (d : Session) → i < j → j < length ss → (get_or ss i d).number < (get_or ss j d).number
strict [] r i j d below there = absurd (omega (arith, there))
strict (s ∷ ss) r i zero d below there = absurd (omega (arith, below))
strict (s ∷ ss) r zero (suc j) d below there = first_below s.number ss r j d (omega (arith, there))
strict (s ∷ ss) r (suc i) (suc j) d below there = strict ss (rises_tail s.number (numbers_of ss) r) i j d (omega (arith, below)) (omega (arith, there))

-- ---- a session that is there, and one that is not

-- the sessions before a place have other numbers
abbrev pub NoneBefore : ℕ → List Session → ℕ → Type 0
NoneBefore number ss k = (j : ℕ) (e : Session) → j < k → (get_or ss j e).number ≡ number → ⊥

later : (number : ℕ) (s : Session) (ss : List Session) (k : ℕ) → NoneBefore number (s ∷ ss) (suc k) → NoneBefore number ss k
later number s ss k none j e below = none (suc j) e (omega (arith, below))

of_at : (number : ℕ) (ss : List Session) (k : ℕ) (d : Session) → k < length ss → (get_or ss k d).number ≡ number → NoneBefore number ss k
    → session_of number ss ≡ get_or ss k d
of_at number [] k d there is none = absurd (omega (arith, there))
of_at number (s ∷ ss) zero d there is none = rw (eq-eqb s.number number is, session_of) refl
of_at number (s ∷ ss) (suc k) d there is none =
    rw (ne_eqb s.number number (none 0 s (omega arith)), session_of) (of_at number ss k d (omega (arith, there)) is (later number s ss k none))

set_at : (number : ℕ) (change : Session → Session) (ss : List Session) (k : ℕ) (d : Session) → k < length ss → (get_or ss k d).number ≡ number → NoneBefore number ss k
    → changed change number ss ≡ set ss k (change (get_or ss k d))
set_at number change [] k d there is none = absurd (omega (arith, there))
set_at number change (s ∷ ss) zero d there is none = rw (eq-eqb s.number number is, changed) refl
set_at number change (s ∷ ss) (suc k) d there is none =
    rw (ne_eqb s.number number (none 0 s (omega arith)), changed) (ap (λ (l : List Session). s ∷ l) (set_at number change ss k d (omega (arith, there)) is (later number s ss k none)))

of_none : (number : ℕ) (ss : List Session) → NoneBefore number ss (length ss) → session_of number ss ≡ joined number
of_none number [] none = refl
of_none number (s ∷ ss) none = rw (ne_eqb s.number number (none 0 s (omega arith)), session_of) (of_none number ss (later number s ss (length ss) none))

set_none : (number : ℕ) (change : Session → Session) (ss : List Session) → NoneBefore number ss (length ss) → changed change number ss ≡ ss
set_none number change [] none = refl
set_none number change (s ∷ ss) none = rw (ne_eqb s.number number (none 0 s (omega arith)), changed) (ap (λ (l : List Session). s ∷ l) (set_none number change ss (later number s ss (length ss) none)))

-- ---- a binary search

elsewhere : (j at end n m : ℕ) → (j < at → n < m) → (at ≤ j → j < end → m < n) → j < end → n ≡ m → ⊥
elsewhere j at end n m below above lt same = grind (arith, below, above)

module _ (ss : List Session) (rising : rises (numbers_of ss) ≡ true) (number : ℕ) where
  climb : (i j : ℕ) (d : Session) → i ≤ j → j < length ss → (get_or ss i d).number ≤ (get_or ss j d).number
  climb i j d le there = grind (arith, strict ss rising i j d, λ (same : i ≡ j). ap (λ (k : ℕ). (get_or ss k d).number) same)

  comparisons_rise : IsNonDecreasingBy (λ (s : Session). ordering_index (nat_cmp s.number number)) ss
  comparisons_rise i j d le there = let up = climb i j d le there in grind (arith, nat_tests)

  pub at_place : (at : ℕ) → at < length ss → HoldsAt (λ (s : Session). nat_cmp s.number number ≡ Equal) ss at → IsPlaceOf number ss (Some at)
  at_place at there equal =
      let here : (d : Session) → (get_or ss at d).number ≡ number = λ d. ranked _ number Equal (sym (equal d)) in
      let none : NoneBefore number ss at = λ j e below same. absurd (omega (arith, strict ss rising j at e below there, here e)) in (
        there,
        λ d. of_at number ss at d there (here d) none,
        λ change d. set_at number change ss at d there (here d) none,
      )

  pub no_place : (at : ℕ) → at ≤ length ss
      → (IsNonDecreasingBy (λ (s : Session). ordering_index (nat_cmp s.number number)) ss → IsPartitionPoint (λ (s : Session). nat_cmp s.number number ≡ Less) (λ (s : Session). nat_cmp s.number number ≡ Greater) ss at)
      → IsPlaceOf number ss None
  no_place at within parted =
      let parts = parted comparisons_rise in
      let below : (j : ℕ) (e : Session) → j < at → (get_or ss j e).number < number = λ j e lt. ranked _ number Less (sym (parts.0 j e (omega arith) lt)) in
      let above : (j : ℕ) (e : Session) → at ≤ j → j < length ss → number < (get_or ss j e).number = λ j e le lt. ranked _ number Greater (sym (parts.1 j e le lt)) in
      let none : NoneBefore number ss (length ss) = λ j e lt same. absurd (elsewhere j at (length ss) (get_or ss j e).number number (below j e) (above j e) lt same) in
      (of_none number ss none, λ change. set_none number change ss none)
