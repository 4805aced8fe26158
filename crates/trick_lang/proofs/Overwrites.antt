-- What a memory is after an effect has overwritten it.
use Rattle.std.proofs.Common.{◌≡◌, ℕ, zero, suc, ◌<◌, ℤ, pos, List, [], ◌∷◌, length, Option, Some, None, unwrap_or, refl, ap, subst, sym, arith}
use Rattle.std.specs.List.{slice_index_or}
use Rattle.trick_lang.specs.Effect.{overwritten}
use Rattle.trick_lang.specs.Laws.{OverwritesRight}
use Rattle.trick_lang.specs.Wrap.{AreInRange, IsInRange}
use Rattle.trick_lang.specs.declared.scalar.Scalar.{Scalar}

pub overwritten_length : (stored : List (Option ℤ)) (numbers : List ℤ) → length (overwritten stored numbers) ≡ length numbers
overwritten_length stored [] = refl
overwritten_length [] (n ∷ ns) = refl
overwritten_length (v ∷ stored) (n ∷ ns) = ap suc (overwritten_length stored ns)

at : (stored : List (Option ℤ)) (numbers : List ℤ) (c : ℕ) → c < length numbers → slice_index_or (overwritten stored numbers) c (pos 0) ≡ unwrap_or (slice_index_or stored c None) (slice_index_or numbers c (pos 0))
at stored [] c h = absurd (omega arith)
at [] (n ∷ ns) c h = refl
at (v ∷ stored) (n ∷ ns) zero h = refl
at (v ∷ stored) (n ∷ ns) (suc c) h = at stored ns c (omega arith)

module _ (scalars : List Scalar) (stored : List (Option ℤ)) (numbers : List ℤ) where
  in_range : ((c : ℕ) (n : ℤ) → slice_index_or stored c None ≡ Some n → IsInRange scalars c n) → AreInRange scalars numbers → AreInRange scalars (overwritten stored numbers)
  in_range new old c h =
      let there : c < length numbers = omega (arith, overwritten_length stored numbers) in
      subst (IsInRange scalars c) (sym (at stored numbers c there)) (either (slice_index_or stored c None) refl (old c there))
    where
      either : (v : Option ℤ) → slice_index_or stored c None ≡ v → IsInRange scalars c (slice_index_or numbers c (pos 0)) → IsInRange scalars c (unwrap_or v (slice_index_or numbers c (pos 0)))
      either None is kept = kept
      either (Some n) is kept = new c n is

pub overwrites_right : OverwritesRight
overwrites_right = record { as_many = overwritten_length; at = at; in_range = in_range }
