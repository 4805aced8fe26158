-- A number of seconds in tics, before it is known to be a time.
use Rattle.std.specs.Prelude.{◌≡◌, ℕ, ◌+◌, ◌*◌, ◌^◌, ◌<◌, Option, Some, None, ◌==◌}
use Rattle.trick_base.specs.Time.{tic_limit}
use Rattle.trick_text.specs.declared.time.Amount.{Amount}

-- the whole tics in a numerator over ten to the power of its places, and whether no rest is left
pub record IsAmount (numerator places : ℕ) (a : Amount) : Type 0 where
  pub rest : ℕ
  pub total : numerator * 10 ^ 6 ≡ a.tics * 10 ^ places + rest
  pub small : rest < 10 ^ places
  pub exact : a.is_exact ≡ (rest == 0)

-- no amount where it is above the limit of tics; one above the limit may be given all the same
abbrev pub IsAmountOf : ℕ → ℕ → Option Amount → Type 0
IsAmountOf numerator places None = tic_limit * 10 ^ places < numerator * 10 ^ 6
IsAmountOf numerator places (Some a) = IsAmount numerator places a
