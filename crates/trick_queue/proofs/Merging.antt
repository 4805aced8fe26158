-- Lists of numbers that rise, put together and sorted.
use Rattle.std.proofs.Common.{◌≡◌, ◌∙◌, ℕ, zero, suc, ◌+◌, ◌<◌, ◌≤◌, ◌==◌, Bool, true, false, ◌&&◌, ◌||◌, List, [], ◌∷◌, ◌++◌, length, get_or, refl, sym, ap, subst, arith, inl, inr}
use Rattle.std.proofs.lemmas.Bool.Decides.{nat_tests}
use Rattle.std.proofs.lemmas.List.Sorted.{IsPermutation-filter_both, sum_by-IsPermutation}
use Rattle.std.proofs.lemmas.List.Sums.{sum_by-cons}
use Rattle.std.specs.List.Sorted.{IsNonDecreasing, IsPermutation}
use Rattle.std.specs.Prelude.{cond, count_by, filter, not}
use Rattle.trick_base.proofs.Numbers.{equal_to_itself}
use Rattle.trick_queue.proofs.Orders.{filter_both, filter_same}
use Rattle.trick_queue.proofs.Trees.{below_or}

-- ---- lists with the same numbers

abbrev pub one_if : Bool → ℕ
one_if b = cond b 1 0

-- how often a number stands in a list
abbrev pub count : ℕ → List ℕ → ℕ
count n [] = 0
count n (x ∷ xs) = one_if (x == n) + count n xs

-- each number is at least this one
abbrev pub AreFrom : ℕ → List ℕ → Type 0
AreFrom low [] = Unit {0}
AreFrom low (x ∷ xs) = (low ≤ x) × AreFrom low xs

-- each number is at least the one before
abbrev pub Rises : List ℕ → Type 0
Rises [] = Unit {0}
Rises (x ∷ xs) = AreFrom x xs × Rises xs

eq_not : (n m : ℕ) → n < m → (m == n) ≡ false
eq_not n m less = grind (arith, nat_tests)

none_below : (n low : ℕ) (xs : List ℕ) → n < low → AreFrom low xs → count n xs ≡ 0
none_below n low [] less from = refl
none_below n low (x ∷ xs) less from =
    let here : one_if (x == n) ≡ 0 = ap (λ b. one_if b) (eq_not n x (omega (arith, from.0, less))) in
    let later : count n xs ≡ 0 = none_below n low xs less from.1 in
    omega (arith, here, later)

from_less : (low lower : ℕ) (xs : List ℕ) → lower ≤ low → AreFrom low xs → AreFrom lower xs
from_less low lower [] le from = tt
from_less low lower (x ∷ xs) le from = (omega (arith, from.0, le), from_less low lower xs le from.1)

head_counts : (x : ℕ) (xs : List ℕ) → count x (x ∷ xs) ≡ 1 + count x xs
head_counts x xs = ap (λ b. one_if b + count x xs) (equal_to_itself x)

-- lists that rise and have each number as often are one
pub same_rising : (xs ys : List ℕ) → Rises xs → Rises ys → ((n : ℕ) → count n xs ≡ count n ys) → xs ≡ ys
same_rising [] [] rises others same = refl
same_rising [] (y ∷ ys) rises others same = let e : 0 ≡ 1 + count y ys = same y ∙ head_counts y ys in absurd (omega (arith, e))
same_rising (x ∷ xs) [] rises others same = let e : 1 + count x xs ≡ 0 = sym (head_counts x xs) ∙ same x in absurd (omega (arith, e))
same_rising (x ∷ xs) (y ∷ ys) rises others same = by_order (same_rising xs ys rises.1 others.1)
  where
    less_x : x < y → ⊥
    less_x less = let e : 1 + count x xs ≡ 0 = sym (head_counts x xs) ∙ same x ∙ none_below x y (y ∷ ys) less (omega arith, others.0) in absurd (omega (arith, e))

    less_y : y < x → ⊥
    less_y less = let e : 0 ≡ 1 + count y ys = sym (none_below y x (x ∷ xs) less (omega arith, rises.0)) ∙ same y ∙ head_counts y ys in absurd (omega (arith, e))

    heads : x ≡ y
    heads = elim (below_or x y) [ inl less ↦ absurd (less_x less) | inr le ↦ elim (below_or y x) [ inl less ↦ absurd (less_y less) | inr ge ↦ omega (arith, le, ge) ] ]

    by_order : (((n : ℕ) → count n xs ≡ count n ys) → xs ≡ ys) → x ∷ xs ≡ y ∷ ys
    by_order tails = ap (λ h. h ∷ xs) heads ∙ ap (λ l. y ∷ l) (tails (λ n.
        let e : one_if (x == n) + count n xs ≡ one_if (y == n) + count n ys = same n in
        let f : one_if (x == n) ≡ one_if (y == n) = ap (λ h. one_if (h == n)) heads in
        omega (arith, e, f)))

-- ---- counts of a permutation, and lists that were sorted

count_sum : (n : ℕ) (xs : List ℕ) → count_by (λ x. x == n) xs ≡ count n xs
count_sum n [] = refl
count_sum n (x ∷ xs) = sum_by-cons (λ x. one_if (x == n)) x xs ∙ ap (λ m. one_if (x == n) + m) (count_sum n xs)

pub same_counts : (xs ys : List ℕ) → IsPermutation xs ys → (n : ℕ) → count n xs ≡ count n ys
same_counts xs ys moved n = sym (count_sum n xs) ∙ sym (sum_by-IsPermutation (λ x. one_if (x == n)) xs ys moved) ∙ count_sum n ys

from_all : (low : ℕ) (xs : List ℕ) → ((j : ℕ) (d : ℕ) → j < length xs → low ≤ get_or xs j d) → AreFrom low xs
from_all low [] all = tt
from_all low (x ∷ xs) all = (all zero 0 (omega arith), from_all low xs (λ j d less. all (suc j) d (omega arith)))

pub rises : (xs : List ℕ) → IsNonDecreasing xs → Rises xs
rises [] sorted = tt
rises (x ∷ xs) sorted = (
  from_all x xs (λ j d less. sorted zero (suc j) d (omega arith) (omega arith)),
  rises xs (λ i j d le less. sorted (suc i) (suc j) d (omega arith) (omega arith)),
)

pub sorted_is_one : (xs ys : List ℕ) → IsPermutation xs ys → IsNonDecreasing xs → IsNonDecreasing ys → xs ≡ ys
sorted_is_one xs ys moved first other = same_rising xs ys (rises xs first) (rises ys other) (same_counts xs ys moved)

-- ---- numbers that pass one test or another

and_of_or : (p q : Bool) → ((p || q) && p) ≡ p
and_of_or true q = refl
and_of_or false true = refl
and_of_or false false = refl

and_not : (p q : Bool) → (p ≡ true → q ≡ false) → ((p || q) && not p) ≡ q
and_not true q excludes = sym (excludes refl)
and_not false true excludes = refl
and_not false false excludes = refl

-- the numbers that pass one of two tests, which exclude one another, are those of the first and those of the second
pub either : (p q : ℕ → Bool) → ((k : ℕ) → p k ≡ true → q k ≡ false) → (xs : List ℕ)
    → IsPermutation (filter (λ k. p k || q k) xs) (filter p xs ++ filter q xs)
either p q excludes xs =
    let all = filter (λ k. p k || q k) xs in
    let first : filter p all ≡ filter p xs = filter_both (λ k. p k || q k) p xs ∙ filter_same (λ k. (p k || q k) && p k) p (λ k. and_of_or (p k) (q k)) xs in
    let other : filter (λ k. not (p k)) all ≡ filter q xs =
    filter_both (λ k. p k || q k) (λ k. not (p k)) xs ∙ filter_same (λ k. (p k || q k) && not (p k)) q (λ k. and_not (p k) (q k) (excludes k)) xs in
    subst (λ l. IsPermutation all l) (ap (λ l. l ++ filter (λ k. not (p k)) all) first ∙ ap (λ l. filter p xs ++ l) other)
    (IsPermutation-filter_both p (λ k. not (p k)) (λ k. refl) all)
