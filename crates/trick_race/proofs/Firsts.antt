-- The first item without a property.
use Rattle.std.proofs.Common.{◌≡◌, ℕ, zero, suc, ◌+◌, ◌<◌, List, [], ◌∷◌, length, get_or, Some, All, Bool, false, IsTrue, refl, sym, ap, subst, ◌∙◌, below_more, arith}
use Rattle.std.proofs.lemmas.Option.{get_or_from_slice_get, slice_get-get_or, slice_get_within}
use Rattle.trick_race.specs.Refusals.{IsFirstItemWithout, IsFirstWithout}

-- what is read at a place does not depend on what stands for a missing item
pub read_at : {A : Type 0} (items : List A) (k : ℕ) (d e : A) → k < length items → get_or items k d ≡ get_or items k e
read_at [] k d e there = absurd (omega arith)
read_at (x ∷ xs) zero d e there = refl
read_at (x ∷ xs) (suc k) d e there = read_at xs k d e (omega arith)

pub one_more : {A : Type 0} (P : A → Type 0) (items : List A) (k : ℕ) (e : A) → k < length items → P (get_or items k e)
    → ((i : ℕ) → i < k → (d : A) → P (get_or items i d)) → (i : ℕ) → i < k + 1 → (d : A) → P (get_or items i d)
one_more P items k e there has before =
    below_more (λ i. (d : _) → P (get_or items i d)) k before (λ d. subst P (read_at items k e d there) has)

pub first_without : {A : Type 0} (P : A → Type 0) (items : List A) (k : ℕ) (e : A) → k < length items
    → (P (get_or items k e) → ⊥)
    → ((i : ℕ) → i < k → (d : A) → P (get_or items i d)) → IsFirstWithout P items k (get_or items k e)
first_without P items k e there lacks before = record {
  there = slice_get-get_or items k e there;
  lacks = lacks;
  before = λ i d below. before i below d;
}

-- the same, where the item at the place is known by name
pub one_more_at : {A : Type 0} (P : A → Type 0) (items : List A) (k : ℕ) (x : A) → ((d : A) → get_or items k d ≡ x)
    → P x
    → ((i : ℕ) → i < k → (d : A) → P (get_or items i d)) → (i : ℕ) → i < k + 1 → (d : A) → P (get_or items i d)
one_more_at P items k x is has before =
    below_more (λ i. (d : _) → P (get_or items i d)) k before (λ d. subst P (sym (is d)) has)

pub first_at : {A : Type 0} (P : A → Type 0) (items : List A) (k : ℕ) (x : A) → k < length items
    → ((d : A) → get_or items k d ≡ x) → (P x → ⊥)
    → ((i : ℕ) → i < k → (d : A) → P (get_or items i d)) → IsFirstWithout P items k x
first_at P items k x there is lacks before = record {
  there = slice_get-get_or items k x there ∙ ap Some (is x);
  lacks = lacks;
  before = λ i d below. before i below d;
}

-- where some item lacks the property, not all have it
pub not_all : {A : Type 0} (P : A → Type 0) (items : List A) (x : A) → IsFirstItemWithout P items x → All P items → ⊥
not_all P items x first all =
    let there = slice_get_within items first.0 x first.1.there in
    first.1.lacks (subst P (get_or_from_slice_get items first.0 x x first.1.there) (all first.0 x there))

-- a test that is false refutes what it follows from
pub refuted : {A : Type 0} (r : Bool) → r ≡ false → (A → IsTrue r) → A → ⊥
refuted r out follows h = let yes_and_no = sym (follows h) ∙ out in cc
