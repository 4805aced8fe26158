-- Numbers that a type can hold.
use Rattle.std.specs.Ordering.{int_eq}
use Rattle.std.specs.Prelude.{ℤ, true, false, Option, Some, None}
use Rattle.trick_lang.specs.Wrap.{wrap}
use Rattle.trick_lang.specs.declared.scalar.Scalar.{Scalar}

-- a number, if it is one of the type
abbrev pub fitting : Scalar → ℤ → Option ℤ
fitting scalar number = elim (int_eq (wrap scalar number) number) [ true ↦ Some number | false ↦ None ]
