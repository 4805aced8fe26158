-- What a store leaves in range.
use Rattle.std.proofs.Common.{◌≡◌, ◌∙◌, ◌+◌, ◌++◌, ◌∷◌, [], ◌<◌, ◌≤◌, inl, inr, ℕ, zero, suc, ℤ, pos, List, length, take, replicate, slice_index_or, slice_set, arith, subst, sym, ap, refl}
use Rattle.std.proofs.lemmas.Bool.{cases_order}
use Rattle.std.proofs.lemmas.List.{get_or-set_other, get_or-set_same, length-replicate, length-set}
use Rattle.trick_lang.proofs.Variables.{scalars_length, zero_of}
use Rattle.trick_lang.specs.Effect.{scalars_of}
use Rattle.trick_lang.specs.Wrap.{AreInRange, IsInRange, scalar_at}
use Rattle.trick_lang.specs.declared.scalar.Scalar.{Scalar}
use Rattle.trick_lang.specs.declared.variable.Variable.{Variable}
use Rattle.trick_memory.specs.Stored.{IsStored}
use Rattle.trick_model.proofs.Lengths.{names_length}
use Rattle.trick_model.specs.Valid.{cell_names}

more : (i : ℕ) → suc (i + 1) ≡ suc i + 1
more i = omega arith

-- a number of the cell's type leaves a memory in range
pub stays_in_range : (scalars : List Scalar) (numbers : List ℤ) (i : ℕ) (x : ℤ) → i < length numbers
    → IsInRange scalars i x → AreInRange scalars numbers → AreInRange scalars (slice_set numbers i x)
stays_in_range scalars numbers i x there right old j fits =
    let other : slice_index_or (slice_set numbers i x) j (pos 0) ≡ slice_index_or numbers j (pos 0) → IsInRange scalars j (slice_index_or (slice_set numbers i x) j (pos 0)) =
    λ same. subst (IsInRange scalars j) (sym same) (old j (subst (λ n. j < n) (length-set numbers i x) fits)) in
    elim (cases_order j i) [
      | inl same ↦ subst (IsInRange scalars j) (sym (subst (λ k. slice_index_or (slice_set numbers i x) k (pos 0) ≡ x) (sym same) (get_or-set_same numbers i x (pos 0) there)))
          (subst (λ k. IsInRange scalars k x) (sym same) right)
      | inr apart ↦ other (get_or-set_other numbers i j x (pos 0) (λ e. elim apart [ inl less ↦ omega (arith, less, e) | inr more ↦ omega (arith, more, e) ]))
    ]

-- ---- the cells so far, with one more

pub taken_name : (cells : List Variable) (i : ℕ) (v : Variable) → i < length cells → slice_index_or cells i v ≡ v
    → cell_names (take i cells) ++ v.name ∷ [] ≡ cell_names (take (i + 1) cells)
taken_name [] i v there is = absurd (omega (arith, there))
taken_name (x ∷ xs) zero v there is = ap (λ (w : Variable). w.name ∷ []) (sym is)
taken_name (x ∷ xs) (suc i) v there is =
    ap (λ (names : List (List ℕ)). x.name ∷ names) (taken_name xs i v (omega (arith, there)) is)
    ∙ ap (λ (k : ℕ). cell_names (take k (x ∷ xs))) (more i)

pub taken_scalar : (cells : List Variable) (i : ℕ) (v : Variable) → i < length cells → slice_index_or cells i v ≡ v
    → scalars_of (take i cells) ++ v.scalar ∷ [] ≡ scalars_of (take (i + 1) cells)
taken_scalar [] i v there is = absurd (omega (arith, there))
taken_scalar (x ∷ xs) zero v there is = ap (λ (w : Variable). w.scalar ∷ []) (sym is)
taken_scalar (x ∷ xs) (suc i) v there is =
    ap (λ (scalars : List Scalar). x.scalar ∷ scalars) (taken_scalar xs i v (omega (arith, there)) is)
    ∙ ap (λ (k : ℕ). scalars_of (take k (x ∷ xs))) (more i)

pub taken_number : (i : ℕ) → replicate i (pos 0) ++ pos 0 ∷ [] ≡ replicate (i + 1) (pos 0)
taken_number zero = refl
taken_number (suc i) = ap (λ (ns : List ℤ). pos 0 ∷ ns) (taken_number i) ∙ ap (λ (k : ℕ). replicate k (pos 0)) (more i)

-- ---- zeros

zero_at : (n j : ℕ) → slice_index_or (replicate n (pos 0)) j (pos 0) ≡ pos 0
zero_at zero j = refl
zero_at (suc n) zero = refl
zero_at (suc n) (suc j) = zero_at n j

-- 0 is a number of each type
pub zeros_in_range : (scalars : List Scalar) (n : ℕ) → AreInRange scalars (replicate n (pos 0))
zeros_in_range scalars n j fits = subst (IsInRange scalars j) (sym (zero_at n j)) (zero_of (scalar_at scalars j))

-- the memory of cells, with zeros
pub zeros_stored : (cells : List Variable) → length cells ≤ 65536 → IsStored (cell_names cells) (scalars_of cells) (replicate (length cells) (pos 0))
zeros_stored cells few = record {
  named = names_length cells ∙ sym (scalars_length cells);
  numbered = length-replicate (length cells) (pos 0) ∙ sym (scalars_length cells);
  few = subst (λ (n : ℕ). n ≤ 65536) (sym (scalars_length cells)) few;
  in_range = zeros_in_range (scalars_of cells) (length cells);
}
