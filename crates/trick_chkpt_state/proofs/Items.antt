-- How many items lines have, and each of them.
use Rattle.std.proofs.Common.{◌≡◌, ◌∙◌, ℕ, zero, suc, ◌+◌, ◌<◌, List, [], ◌∷◌, length, ap, refl, sym, subst}
use Rattle.std.specs.List.{enumerate_from, slice_index_or}
use Rattle.trick_base.proofs.Numbers.{less_before, none_below_zero}
use Rattle.trick_codes.specs.Lines.{Holds, Lines, each, numbered, split_first}

more : (a b : ℕ) → a ≡ b → suc a ≡ suc b
more a b e = ap suc e

-- a list that comes back from its parts has a first item
has_first : {A : Type 0} (d : A) (xs : List A) → (split_first d xs).0 ∷ (split_first d xs).1 ≡ xs → length xs ≡ suc (length (split_first d xs).1)
has_first d [] e = cc e
has_first d (x ∷ xs) e = refl

module _ {K A : Type 0} (d : A) (c : K → Lines A) where
  pub each_length : (ks : List K) (xs : List A) → Holds (each d c ks) xs → length xs ≡ length ks
  each_length [] xs holds = ap length holds
  each_length (k ∷ ks) xs holds = has_first d xs holds.1 ∙ more (length (split_first d xs).1) (length ks) (each_length ks (split_first d xs).1 holds.0.1)

  pub each_item : (ks : List K) (xs : List A) (k : ℕ) (none : K) (other : A) → Holds (each d c ks) xs → k < length ks
      → Holds (c (slice_index_or ks k none)) (slice_index_or xs k other)
  each_item [] xs k none other holds less = absurd (none_below_zero k less)
  each_item (key ∷ ks) [] k none other holds less = cc (holds.1)
  each_item (key ∷ ks) (x ∷ xs) zero none other holds less = holds.0.0
  each_item (key ∷ ks) (x ∷ xs) (suc k) none other holds less = each_item ks xs k none other holds.0.1 (less_before k (length ks) less)

module _ {A : Type 0} (d : A) (c : ℕ → Lines A) where
  pub numbered_length : (from count : ℕ) (xs : List A) → Holds (numbered d c from count) xs → length xs ≡ count
  numbered_length from zero xs holds = ap length holds
  numbered_length from (suc count) xs holds =
      has_first d xs holds.1 ∙ more (length (split_first d xs).1) count (numbered_length (from + 1) count (split_first d xs).1 holds.0.1)

  -- what holds of the item of each line holds of each item
  pub numbered_all : (P : A → Type 0) → ((k : ℕ) (x : A) → Holds (c k) x → P x) → (from count : ℕ) (xs : List A) (k : ℕ) (other : A)
      → Holds (numbered d c from count) xs → k < length xs → P (slice_index_or xs k other)
  numbered_all P step from count [] k other holds less = absurd (none_below_zero k less)
  numbered_all P step from zero (x ∷ xs) k other holds less = cc holds
  numbered_all P step from (suc count) (x ∷ xs) zero other holds less = step from x holds.0.0
  numbered_all P step from (suc count) (x ∷ xs) (suc k) other holds less =
      numbered_all P step (from + 1) count xs k other holds.0.1 (less_before k (length xs) less)

-- the item of a numbered list
pub numbered_at : {X : Type 0} (n k : ℕ) (xs : List X) (d : ℕ × X) → k < length xs
    → (slice_index_or (enumerate_from n xs) k d).1 ≡ slice_index_or xs k d.1
numbered_at n k [] d less = absurd (none_below_zero k less)
numbered_at n zero (x ∷ xs) d less = refl
numbered_at n (suc k) (x ∷ xs) d less = numbered_at (n + 1) k xs d (less_before k (length xs) less)

pub numbered_many : {X : Type 0} (n : ℕ) (xs : List X) → length (enumerate_from n xs) ≡ length xs
numbered_many n [] = refl
numbered_many n (x ∷ xs) = more (length (enumerate_from (n + 1) xs)) (length xs) (numbered_many (n + 1) xs)
