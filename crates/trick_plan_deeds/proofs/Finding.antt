-- Places in lists.
use Rattle.std.proofs.Common.{ℕ, ◌+◌, Option, Some, None}

-- a place counted from an earlier one
abbrev pub later : ℕ → Option ℕ → Option ℕ
later k None = None
later k (Some j) = Some (k + j)
