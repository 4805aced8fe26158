-- How far the time of a simulation goes.
use Rattle.std.specs.Prelude.{ℕ, ◌^◌}

-- the latest tic that a time can be: a thousand million seconds
abbrev pub tic_limit : ℕ
tic_limit = 10 ^ 15
