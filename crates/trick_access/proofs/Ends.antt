-- What is noted by cell are the cells of the ranges.
use Rattle.std.proofs.Common.{◌≡◌, ℕ, zero, suc, ◌+◌, ◌<◌, ◌≤◌, Bool, true, false, ◌&&◌, ◌||◌, nat_le, nat_lt, if◌then◌else◌, List, [], ◌∷◌, ◌++◌, length, take, replicate, slice_set, refl, ap, ap₂, sym, ◌∙◌, arith}
use Rattle.std.proofs.Math.Bool.{or-false, or_assoc}
use Rattle.std.proofs.lemmas.Bool.Decides.{nat_tests}
use Rattle.std.proofs.lemmas.Bool.{ltb-true}
use Rattle.std.proofs.lemmas.List.{length-set}
use Rattle.std.specs.List.{slice_index_or}
use Rattle.trick_lang.specs.Access.{is_in}
use Rattle.trick_access.specs.Reached.{is_reached, larger, most, noted, noted_one}
use Rattle.trick_lang.specs.declared.range.CellRange.{CellRange}

pub or_swap : (a b c : Bool) → (a || (b || c)) ≡ (b || (a || c))
or_swap true true c = refl
or_swap true false c = refl
or_swap false b c = refl

pub or_turn : (a b : Bool) → (a || b) ≡ (b || a)
or_turn true true = refl
or_turn true false = refl
or_turn false b = sym (or-false b)

pub noted_both : (xs ys : List CellRange) (ends : List ℕ) → noted (xs ++ ys) ends ≡ noted ys (noted xs ends)
noted_both [] ys ends = refl
noted_both (x ∷ xs) ys ends = noted_both xs ys (noted_one ends x)

pub noted_length : (rs : List CellRange) (ends : List ℕ) → length (noted rs ends) ≡ length ends
noted_length [] ends = refl
noted_length (r ∷ rs) ends = noted_length rs (noted_one ends r) ∙ length-set ends (r.first).0 (larger (slice_index_or ends (r.first).0 0) ((r.last).0 + 1))

below_larger : (q a b : ℕ) → nat_lt q (larger a b) ≡ (nat_lt q a || nat_lt q b)
below_larger q a b = go (nat_lt a b) refl
  where
    go : (t : Bool) → nat_lt a b ≡ t → nat_lt q (if t then b else a) ≡ (nat_lt q a || nat_lt q b)
    go true e = let less : a < b = ltb-true a b e in grind (arith, nat_tests)
    go false e = let more : b ≤ a = grind (arith, nat_tests) in grind (arith, nat_tests)

four : (a b m : Bool) → ((a || b) || m) ≡ (b || (a || m))
four a b m = or_assoc a b m ∙ or_swap a b m

-- a range that begins at i ends after e
most_set : (xs : List ℕ) (i n q e : ℕ) → n ≤ length xs → nat_lt q (most (take n (slice_set xs i (larger (slice_index_or xs i 0) (e + 1))))) ≡ ((nat_lt i n && nat_le q e) || nat_lt q (most (take n xs)))
most_set xs i zero q e h =
    let none : nat_lt i 0 ≡ false = grind (arith, nat_tests) in
    ap (λ t. (t && nat_le q e) || nat_lt q 0) (sym none)
most_set [] i (suc n) q e h = absurd (omega arith)
most_set (x ∷ xs) zero (suc n) q e h =
    let here : nat_lt 0 (suc n) ≡ true = grind (arith, nat_tests) in
    let last : nat_lt q (e + 1) ≡ nat_le q e = grind (arith, nat_tests) in
    below_larger q (larger x (e + 1)) (most (take n xs))
    ∙ ap (λ t. t || nat_lt q (most (take n xs))) (below_larger q x (e + 1) ∙ ap (λ t. nat_lt q x || t) last)
    ∙ four (nat_lt q x) (nat_le q e) (nat_lt q (most (take n xs)))
    ∙ ap₂ (λ s t. (s && nat_le q e) || t) (sym here) (sym (below_larger q x (most (take n xs))))
most_set (x ∷ xs) (suc i) (suc n) q e h =
    let there : nat_lt (suc i) (suc n) ≡ nat_lt i n = grind (arith, nat_tests) in
    below_larger q x (most (take n (slice_set xs i (larger (slice_index_or xs i 0) (e + 1)))))
    ∙ ap (λ t. nat_lt q x || t) (most_set xs i n q e (omega arith))
    ∙ or_swap (nat_lt q x) (nat_lt i n && nat_le q e) (nat_lt q (most (take n xs)))
    ∙ ap₂ (λ s t. (s && nat_le q e) || t) (sym there) (sym (below_larger q x (most (take n xs))))

one_reached : (ends : List ℕ) (r : CellRange) (c : ℕ) → c < length ends → is_reached (noted_one ends r) c ≡ ((nat_le (r.first).0 c && nat_le c (r.last).0) || is_reached ends c)
one_reached ends r c h =
    let from : nat_lt (r.first).0 (suc c) ≡ nat_le (r.first).0 c = grind (arith, nat_tests) in
    most_set ends (r.first).0 (suc c) c (r.last).0 (omega arith)
    ∙ ap (λ t. (t && nat_le c (r.last).0) || is_reached ends c) from

-- a cell is reached by what was noted where it is in the ranges or was reached before
pub noted_reached : (rs : List CellRange) (ends : List ℕ) (c : ℕ) → c < length ends → is_reached (noted rs ends) c ≡ (is_in rs c || is_reached ends c)
noted_reached [] ends c h = refl
noted_reached (r ∷ rs) ends c h =
    let covered = nat_le (r.first).0 c && nat_le c (r.last).0 in
    let long = length-set ends (r.first).0 (larger (slice_index_or ends (r.first).0 0) ((r.last).0 + 1)) in
    noted_reached rs (noted_one ends r) c (omega (arith, long))
    ∙ ap (λ t. is_in rs c || t) (one_reached ends r c h)
    ∙ or_swap (is_in rs c) covered (is_reached ends c)
    ∙ sym (or_assoc covered (is_in rs c) (is_reached ends c))

most_none : (m n : ℕ) → most (take m (replicate n 0)) ≡ 0
most_none zero n = refl
most_none (suc m) zero = refl
most_none (suc m) (suc n) = ap (larger 0) (most_none m n)

-- nothing is reached where nothing was noted
pub none_reached : (n c : ℕ) → is_reached (replicate n 0) c ≡ false
none_reached n c =
    let none : nat_lt c 0 ≡ false = grind (arith, nat_tests) in
    ap (λ q. nat_lt c q) (most_none (suc c) n) ∙ none

-- one cell more has been looked at
pub most_next : (xs : List ℕ) (i : ℕ) → i < length xs → larger (most (take i xs)) (slice_index_or xs i 0) ≡ most (take (suc i) xs)
most_next [] i h = absurd (omega arith)
most_next (x ∷ xs) zero h = from_zero (nat_lt 0 x) refl
  where
    from_zero : (t : Bool) → nat_lt 0 x ≡ t → (if t then x else 0) ≡ larger x 0
    from_zero true e = let a : nat_lt x 0 ≡ false = grind (arith, nat_tests) in sym (ap (λ t. if t then 0 else x) a)
    from_zero false e = let a : nat_lt x 0 ≡ false = grind (arith, nat_tests) in let none : 0 ≡ x = grind (arith, nat_tests) in none ∙ sym (ap (λ t. if t then 0 else x) a)
most_next (x ∷ xs) (suc i) h = larger_assoc x (most (take i xs)) (slice_index_or xs i 0) ∙ ap (larger x) (most_next xs i (omega arith))
  where
    larger_assoc : (a b c : ℕ) → larger (larger a b) c ≡ larger a (larger b c)
    larger_assoc a b c = go (nat_lt a b) (nat_lt b c) refl refl
      where
        go : (s t : Bool) → nat_lt a b ≡ s → nat_lt b c ≡ t → larger (if s then b else a) c ≡ larger a (if t then c else b)
        go true true e f = let less : nat_lt a c ≡ true = grind (arith, nat_tests) in ap (λ p. if p then c else b) f ∙ sym (ap (λ p. if p then c else a) less)
        go true false e f = ap (λ p. if p then c else b) f ∙ sym (ap (λ p. if p then b else a) e)
        go false true e f = refl
        go false false e f = let more : nat_lt a c ≡ false = grind (arith, nat_tests) in ap (λ p. if p then c else a) more ∙ sym (ap (λ p. if p then b else a) e)

-- what was noted first, and then the rest
pub note_next : (xs ys : List CellRange) (ends grown all : List ℕ) → noted (xs ++ ys) ends ≡ all → grown ≡ noted xs ends → noted ys grown ≡ all
note_next xs ys ends grown all told is = ap (noted ys) is ∙ sym (noted_both xs ys ends) ∙ told
