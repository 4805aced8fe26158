-- Counts of faults over calls in a row.
use Rattle.std.proofs.Common.{ℕ, ◌≤◌, arith}
use Rattle.trick_outside.specs.Causes.{Rose}

-- a rise after others is a rise over all of them
pub rose_earlier : (before mid now : ℕ) → before ≤ mid → Rose mid now → Rose before now
rose_earlier before mid now less rose = omega arith

-- a rise stays one while the count does not fall
pub rose_later : (before mid now : ℕ) → Rose before mid → mid ≤ now → Rose before now
rose_later before mid now rose less = omega arith

-- a count that is 0 has not risen
pub rose_none : Rose 0 0 → ⊥
rose_none rose = omega (arith, rose)
