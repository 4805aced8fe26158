-- When a call may fail: only where its object's count of faults rose.
use Rattle.std.specs.Prelude.{ℕ, ◌+◌, ◌-◌, ◌^◌, ◌≤◌, min}

-- The count rose by so many at least, or it stands at its end, 2 ^ 64 - 1.
abbrev pub RoseBy : ℕ → ℕ → ℕ → Type 0
RoseBy before count now = min (before + count) (2 ^ 64 - 1) ≤ now

-- The count rose, or it stands at its end.
abbrev pub Rose : ℕ → ℕ → Type 0
Rose before now = RoseBy before 1 now

-- The count has not fallen, and the failure comes only where it rose.
pub record HasCause (before now : ℕ) (Failed : Type 0) : Type 0 where
  pub later : before ≤ now
  pub failed : Failed → Rose before now
