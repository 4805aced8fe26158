-- One cell more in a sum.
use Rattle.std.proofs.Common.{◌≡◌, ◌<◌, ◌≤◌, ◌+◌, ◌%◌, ◌^◌, ℕ, List, [], length, ap, sym, ◌∙◌, take, arith}
use Rattle.std.proofs.Common.{ℤ, pos, ◌+ℤ◌, FitsSigned}
use Rattle.std.proofs.lemmas.Int.{int_wrap-add_left, int_wrap_fits, wrapping_add_onto}
use Rattle.std.proofs.lemmas.List.{take_all}
use Rattle.std.proofs.lemmas.List.Sums.{fold_more}
use Rattle.std.specs.Int.{cast_signed, cast_unsigned, int_wrap, w64}
use Rattle.std.specs.List.{fold, slice_index_or}
use Rattle.trick_exec_alone.specs.Sum.{wrapped_sum}

-- the wrapped sum of no cell
pub sum_none : pos 0 ≡ wrapped_sum []
sum_none = sym (int_wrap_fits w64 (pos 0) (omega arith))

-- the wrapped sum with one cell more
pub sum_more : (numbers : List ℤ) (cell bits : ℕ) (number : ℤ) → cell < length numbers → bits < 2 ^ 64 → FitsSigned w64 number
    → cast_signed w64 bits ≡ wrapped_sum (take cell numbers) → number ≡ slice_index_or numbers cell (pos 0) → cast_signed w64 ((bits + cast_unsigned w64 number) % 2 ^ 64) ≡ wrapped_sum (take (cell + 1) numbers)
sum_more numbers cell bits number less fits also is at =
    wrapping_add_onto w64 bits number fits also ∙ ap (λ s. int_wrap w64 (s +ℤ number)) is
    ∙ int_wrap-add_left w64 (fold ◌+ℤ◌ (pos 0) (take cell numbers)) number
    ∙ ap (λ n. int_wrap w64 (fold ◌+ℤ◌ (pos 0) (take cell numbers) +ℤ n)) at
    ∙ ap (int_wrap w64) (sym (fold_more ◌+ℤ◌ (pos 0) numbers cell (pos 0) less))

-- the wrapped sum of all cells
pub sum_all : (numbers : List ℤ) (cell bits : ℕ) → length numbers ≤ cell → cast_signed w64 bits ≡ wrapped_sum (take cell numbers) → cast_signed w64 bits ≡ wrapped_sum numbers
sum_all numbers cell bits all is = is ∙ ap wrapped_sum (take_all cell numbers all)
