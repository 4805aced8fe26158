-- The sum of all cells of a memory.
use Rattle.std.specs.List.{fold}
use Rattle.std.specs.Prelude.{List, ℤ, pos, ◌+ℤ◌}
use Rattle.trick_lang.specs.Wrap.{wrap}
use Rattle.trick_lang.specs.declared.scalar.Scalar.TheVariants.{Long}

-- the sum of all numbers, wrapped to 64 bits
abbrev pub wrapped_sum : List ℤ → ℤ
wrapped_sum numbers = wrap Long (fold ◌+ℤ◌ (pos 0) numbers)
