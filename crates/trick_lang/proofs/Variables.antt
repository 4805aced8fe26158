-- The types of cells.
use Rattle.std.proofs.Common.{◌≡◌, suc, pos, List, [], ◌∷◌, length, refl, ap}
use Rattle.std.specs.Int.{int_wrap}
use Rattle.trick_lang.specs.Effect.{scalars_of}
use Rattle.trick_lang.specs.Wrap.{IsOf}
use Rattle.trick_lang.specs.declared.scalar.Scalar.TheVariants as scalar
use Rattle.trick_lang.specs.declared.scalar.Scalar.{Scalar}
use Rattle.trick_lang.specs.declared.variable.Variable.{Variable}

pub scalars_length : (cells : List Variable) → length (scalars_of cells) ≡ length cells
scalars_length [] = refl
scalars_length (cell ∷ cells) = ap suc (scalars_length cells)

-- 0 is a number of each type
pub zero_of : (type : Scalar) → IsOf type (pos 0)
unfolding int_wrap
zero_of scalar.Bool = refl
zero_of scalar.Char = refl
zero_of scalar.UChar = refl
zero_of scalar.Short = refl
zero_of scalar.UShort = refl
zero_of scalar.Int = refl
zero_of scalar.UInt = refl
zero_of scalar.Long = refl
