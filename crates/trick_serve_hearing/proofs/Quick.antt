-- To which sessions no message was left out.
use Rattle.std.proofs.Common.{◌≡◌, ⊎_elim, ℕ, ◌+◌, ◌-◌, ◌<◌, ◌≤◌, true, false, List, arith, length, slice_index_or, slice_set, subst, sym}
use Rattle.std.proofs.lemmas.Bool.{cases_lt, not-true}
use Rattle.std.proofs.lemmas.Bool.Decides.{eqb_tells}
use Rattle.std.proofs.lemmas.List.{get_or_default}
use Rattle.std.specs.Prelude.{not}
use Rattle.trick_serve_hearing.proofs.Placing.{kept_where, side_other, side_set}
use Rattle.trick_serve_hearing.specs.Rules.{AreQuick, is_live}
use Rattle.trick_serve_hearing.specs.Sides.{Side, side}
use Rattle.trick_serve_hearing.specs.declared.seat.Seat.{Seat}
use Rattle.std.specs.List.{filter}

-- what is asked of a session
abbrev pub IsQuickAt : List Seat → ℕ → Type 0
IsQuickAt seats n = is_live seats n ≡ true → (side seats (n - 1)).slow ≡ false

-- it is so with the first ones of these sessions
abbrev pub AreQuickTo : List Seat → List ℕ → ℕ → Type 0
AreQuickTo seats numbers count = (j : ℕ) → j < count → IsQuickAt seats (slice_index_or numbers j 0)

-- the session whose seat was set
quick_here : (seats : List Seat) (i n : ℕ) (seat : Seat) → i < length seats → n - 1 ≡ i → (seat.left ≡ false → seat.slow ≡ false)
    → IsQuickAt (slice_set seats i seat) n
quick_here seats i n seat inside is quick =
    subst (λ (m : ℕ). not (side (slice_set seats i seat) m).left ≡ true → (side (slice_set seats i seat) m).slow ≡ false) (sym is)
    (subst (λ (s : Side). not s.left ≡ true → s.slow ≡ false) (sym (side_set seats i seat inside)) (λ live. quick (not-true seat.left live)))

-- or another one
quick_set : (seats : List Seat) (i n : ℕ) (seat : Seat) → i < length seats → (seat.left ≡ false → seat.slow ≡ false) → IsQuickAt seats n
    → IsQuickAt (slice_set seats i seat) n
quick_set seats i n seat inside quick was = ⊎_elim
    (λ same. quick_here seats i n seat inside same.1 quick)
    (λ apart. subst (λ (s : Side). not s.left ≡ true → s.slow ≡ false) (sym (side_other seats i (n - 1) seat apart.1)) was)
    (eqb_tells (n - 1) i)

-- one session more
pub quick_more : (seats : List Seat) (numbers : List ℕ) (count i : ℕ) (seat : Seat) → i < length seats → slice_index_or numbers count 0 - 1 ≡ i
    → (seat.left ≡ false → seat.slow ≡ false) → AreQuickTo seats numbers count → AreQuickTo (slice_set seats i seat) numbers (count + 1)
quick_more seats numbers count i seat inside is quick was = λ j within. ⊎_elim
    (λ before. quick_set seats i (slice_index_or numbers j 0) seat inside quick (was j before))
    (λ last. quick_here seats i (slice_index_or numbers j 0) seat inside
    (subst (λ (m : ℕ). slice_index_or numbers m 0 - 1 ≡ i) (same j within last) is) quick)
    (cases_lt j count)
  where
    same : (j : ℕ) → j < count + 1 → count ≤ j → count ≡ j
    same j within last = omega (arith, within, last)

-- all of them
pub quick_all : (seats : List Seat) (numbers : List ℕ) (count : ℕ) → length numbers ≤ count → AreQuickTo seats numbers count
    → AreQuick seats (filter (is_live seats) numbers)
quick_all seats numbers count past was =
    kept_where (is_live seats) (λ n. (side seats (n - 1)).slow ≡ false) numbers
    (λ j d here. subst (λ (n : ℕ). IsQuickAt seats n) (get_or_default numbers j 0 d here) (was j (below j here)))
  where
    below : (j : ℕ) → j < length numbers → j < count
    below j here = omega (arith, here, past)
