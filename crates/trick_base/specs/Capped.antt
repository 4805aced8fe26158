-- Numbers that stand still.
use Rattle.std.specs.Prelude.{ℕ, ◌-◌, ◌^◌, min}

-- a number, or 2^64 - 1 where it is more
abbrev pub capped : ℕ → ℕ
capped n = min n (2 ^ 64 - 1)
