-- Numbers that are read are in the ranges of their cells.
use Rattle.std.proofs.Common.{◌≡◌, ℕ, zero, suc, ◌<◌, ℤ, pos, negsuc, List, [], ◌∷◌, length, get_or, refl, sym, ap, ◌∙◌, subst, arith}
use Rattle.std.proofs.lemmas.Int.{ints}
use Rattle.trick_chkpt_lines.specs.Ranges.{range_of}
use Rattle.trick_codes.specs.Code.{IsWithin}
use Rattle.trick_lang.proofs.WrapLaw.{wraps_right}
use Rattle.trick_lang.specs.Effect.{scalars_of}
use Rattle.trick_lang.specs.Laws.{IsBetween}
use Rattle.trick_lang.specs.Wrap.{IsInRange, IsOf, scalar_at}
use Rattle.trick_lang.specs.declared.scalar.Scalar.{Scalar}
use Rattle.trick_lang.specs.declared.scalar.Scalar.TheVariants as scalar
use Rattle.trick_lang.specs.declared.variable.Variable.{Variable}

between : (s : Scalar) (n : ℤ) → IsWithin (range_of s).below (range_of s).above n → IsBetween s n
between scalar.Bool (pos n) h = (omega (arith, ints), omega (arith, ints))
between scalar.Bool (negsuc n) h = absurd (omega arith)
between scalar.Char (pos n) h = (omega (arith, ints), omega (arith, ints))
between scalar.Char (negsuc n) h = (omega (arith, ints), omega (arith, ints))
between scalar.UChar (pos n) h = (omega (arith, ints), omega (arith, ints))
between scalar.UChar (negsuc n) h = absurd (omega arith)
between scalar.Short (pos n) h = (omega (arith, ints), omega (arith, ints))
between scalar.Short (negsuc n) h = (omega (arith, ints), omega (arith, ints))
between scalar.UShort (pos n) h = (omega (arith, ints), omega (arith, ints))
between scalar.UShort (negsuc n) h = absurd (omega arith)
between scalar.Int (pos n) h = (omega (arith, ints), omega (arith, ints))
between scalar.Int (negsuc n) h = (omega (arith, ints), omega (arith, ints))
between scalar.UInt (pos n) h = (omega (arith, ints), omega (arith, ints))
between scalar.UInt (negsuc n) h = absurd (omega arith)
between scalar.Long (pos n) h = (omega (arith, ints), omega (arith, ints))
between scalar.Long (negsuc n) h = (omega (arith, ints), omega (arith, ints))

-- a number of a type's range is one of the type
pub of_type : (s : Scalar) (n : ℤ) → IsWithin (range_of s).below (range_of s).above n → IsOf s n
of_type s n h = (wraps_right.kept s n).1 (between s n h)

scalar_is : (cells : List Variable) (i : ℕ) (none : Variable) → i < length cells → scalar_at (scalars_of cells) i ≡ (get_or cells i none).scalar
scalar_is [] i none lt = absurd (omega arith)
scalar_is (v ∷ cells) zero none lt = refl
scalar_is (v ∷ cells) (suc i) none lt = scalar_is cells i none (omega arith)

pub in_range_of : (cells : List Variable) (i : ℕ) (none : Variable) (n : ℤ) → i < length cells → IsOf (get_or cells i none).scalar n
    → IsInRange (scalars_of cells) i n
in_range_of cells i none n lt h = subst (λ (s : Scalar). IsOf s n) (sym (scalar_is cells i none lt)) h

-- the same, where the cell is one of a slice
pub in_range_at : (slice cells : List Variable) (i : ℕ) (v : Variable) (n : ℤ) → slice ≡ cells → i < length cells → v ≡ get_or slice i v
    → IsOf v.scalar n → IsInRange (scalars_of cells) i n
in_range_at slice cells i v n same lt is h =
    in_range_of cells i v n lt (subst (λ (w : Variable). IsOf w.scalar n) (is ∙ ap (λ (us : List Variable). get_or us i v) same) h)
