-- Rows of numbers.
use Rattle.std.proofs.Common.{◌≡◌, ℕ, zero, suc, ◌-◌, ◌≤◌, ◌<◌, List, [], ◌∷◌, length, drop, refl, arith}
use Rattle.trick_codes.specs.Named.{mark_before}
use Rattle.trick_codes.specs.declared.range.Range.{Range}

mark_of_more : (rs : List Range) → 1 ≤ length rs → mark_before rs ≡ 44
mark_of_more [] h = absurd (omega arith)
mark_of_more (r ∷ rs) h = refl

mark_of_none : (rs : List Range) → length rs ≤ 0 → mark_before rs ≡ 59
mark_of_none [] h = refl
mark_of_none (r ∷ rs) h = absurd (omega arith)

length_drop : (k : ℕ) (rs : List Range) → length (drop k rs) ≡ length rs - k
length_drop zero [] = refl
length_drop (suc k) [] = omega arith
length_drop zero (r ∷ rs) = omega arith
length_drop (suc k) (r ∷ rs) = omega (arith, length_drop k rs)

pub comma_before : (rs : List Range) (k : ℕ) → k < length rs → mark_before (drop k rs) ≡ 44
comma_before rs k h = mark_of_more (drop k rs) (omega (arith, length_drop k rs))

pub semicolon_at_end : (rs : List Range) (k : ℕ) → length rs ≤ k → mark_before (drop k rs) ≡ 59
semicolon_at_end rs k h = mark_of_none (drop k rs) (omega (arith, length_drop k rs))
