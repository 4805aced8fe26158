-- Worked sums.
use Rattle.std.proofs.Common.{◌≡◌, [], ◌∷◌, refl}
use Rattle.std.specs.Int.{int_wrap}
use Rattle.std.specs.Prelude.{pos, negsuc}
use Rattle.trick_exec_alone.specs.Sum.{wrapped_sum}

-- no cell
none : wrapped_sum [] ≡ pos 0
unfolding int_wrap
none = refl

-- cells of both signs
some : wrapped_sum (pos 7 ∷ negsuc 9 ∷ pos 1 ∷ []) ≡ negsuc 1
unfolding int_wrap
some = refl

-- one more than the largest number is the least
wraps : wrapped_sum (pos 9223372036854775807 ∷ pos 1 ∷ []) ≡ negsuc 9223372036854775807
unfolding int_wrap
wraps = refl

-- and one less than the least is the largest
wraps_down : wrapped_sum (negsuc 9223372036854775807 ∷ negsuc 0 ∷ []) ≡ pos 9223372036854775807
unfolding int_wrap
wraps_down = refl
