-- What states have is what lines hold.
use Rattle.std.proofs.Common.{◌≡◌, ◌∙◌, ℕ, zero, suc, ◌+◌, ◌<◌, ◌≤◌, ℤ, pos, negsuc, List, [], ◌∷◌, length, ap, arith, get_or, refl, subst, sym}
use Rattle.std.proofs.lemmas.Int.{ints}
use Rattle.std.specs.List.{slice_index_or}
use Rattle.trick_chkpt_lines.specs.Ranges.{range_of}
use Rattle.trick_codes.specs.Code.{IsWithin}
use Rattle.trick_codes.specs.Lines.{Holds, Lines, each, numbered, split_first}
use Rattle.trick_lang.proofs.WrapLaw.{wraps_right}
use Rattle.trick_lang.specs.Laws.{IsBetween}
use Rattle.trick_lang.specs.Wrap.{IsOf}
use Rattle.trick_lang.specs.declared.scalar.Scalar.{Scalar}
use Rattle.trick_lang.specs.declared.scalar.Scalar.TheVariants as scalar

none_less : (n : ℕ) → 0 ≡ suc n → ⊥
none_less n e = omega (arith, e)

one_less : (a b : ℕ) → suc a ≡ suc b → a ≡ b
one_less a b e = omega (arith, e)

zero_less : (n : ℕ) → 0 < suc n
zero_less n = omega arith

suc_less : (k n : ℕ) → k < n → suc k < suc n
suc_less k n less = omega (arith, less)

module _ {K A : Type 0} (d : A) (c : K → Lines A) where
  pub each_holds : (ks : List K) (xs : List A) (none : K) (other : A) → length xs ≡ length ks
      → ((k : ℕ) → k < length ks → Holds (c (slice_index_or ks k none)) (slice_index_or xs k other)) → Holds (each d c ks) xs
  each_holds [] [] none other many items = refl
  each_holds [] (x ∷ xs) none other many items = absurd (none_less (length xs) (sym many))
  each_holds (k ∷ ks) [] none other many items = absurd (none_less (length ks) many)
  each_holds (k ∷ ks) (x ∷ xs) none other many items = (
    (
      items 0 (zero_less (length ks)),
      each_holds ks xs none other (one_less (length xs) (length ks) many) (λ j less. items (suc j) (suc_less j (length ks) less)),
    ),
    refl,
  )

module _ {A : Type 0} (d : A) (c : ℕ → Lines A) where
  pub numbered_holds : (from count : ℕ) (xs : List A) (other : A) → length xs ≡ count
      → ((k j : ℕ) → k < count → Holds (c j) (slice_index_or xs k other)) → Holds (numbered d c from count) xs
  numbered_holds from zero [] other many items = refl
  numbered_holds from zero (x ∷ xs) other many items = absurd (none_less (length xs) (sym many))
  numbered_holds from (suc count) [] other many items = absurd (none_less count many)
  numbered_holds from (suc count) (x ∷ xs) other many items = (
    (
      items 0 from (zero_less count),
      numbered_holds (from + 1) count xs other (one_less (length xs) count many) (λ k j less. items (suc k) j (suc_less k count less)),
    ),
    refl,
  )

-- ---- ranges

within : (s : Scalar) (n : ℤ) → IsBetween s n → IsWithin (range_of s).below (range_of s).above n
within scalar.Bool (pos n) h = omega (arith, ints, h.0, h.1)
within scalar.Bool (negsuc n) h = absurd (omega (arith, ints, h.0, h.1))
within scalar.Char (pos n) h = omega (arith, ints, h.0, h.1)
within scalar.Char (negsuc n) h = omega (arith, ints, h.0, h.1)
within scalar.UChar (pos n) h = omega (arith, ints, h.0, h.1)
within scalar.UChar (negsuc n) h = absurd (omega (arith, ints, h.0, h.1))
within scalar.Short (pos n) h = omega (arith, ints, h.0, h.1)
within scalar.Short (negsuc n) h = omega (arith, ints, h.0, h.1)
within scalar.UShort (pos n) h = omega (arith, ints, h.0, h.1)
within scalar.UShort (negsuc n) h = absurd (omega (arith, ints, h.0, h.1))
within scalar.Int (pos n) h = omega (arith, ints, h.0, h.1)
within scalar.Int (negsuc n) h = omega (arith, ints, h.0, h.1)
within scalar.UInt (pos n) h = omega (arith, ints, h.0, h.1)
within scalar.UInt (negsuc n) h = absurd (omega (arith, ints, h.0, h.1))
within scalar.Long (pos n) h = omega (arith, ints, h.0, h.1)
within scalar.Long (negsuc n) h = omega (arith, ints, h.0, h.1)

-- a number of a type is in the type's range
pub range_kept : (s : Scalar) (n : ℤ) → IsOf s n → IsWithin (range_of s).below (range_of s).above n
range_kept s n h = within s n ((wraps_right.kept s n).0 h)
