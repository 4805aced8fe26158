-- The faults of a run.
use Rattle.std.specs.Prelude.{ℕ, ◌+◌, ◌-◌, ◌^◌, min, List, [], ◌∷◌, ◌++◌, length, nat_lt, if◌then◌else◌}
use Rattle.trick_lang.specs.declared.fault.JobFault.{JobFault}

-- the count of all faults, and the first ones
pub record FaultList : Type 0 where
  pub count : ℕ
  pub first : List JobFault

-- how many faults are kept
abbrev pub kept : ℕ
kept = 1000

-- The list keeps the first 1,000 faults; the count stands still at 2^64 - 1.
abbrev pub with_fault : JobFault → FaultList → FaultList
with_fault fault faults = record {
  count = min (faults.count + 1) (2 ^ 64 - 1);
  first = if nat_lt (length faults.first) kept then faults.first ++ fault ∷ [] else faults.first;
}

-- faults are added in their order
abbrev pub with_faults : List JobFault → FaultList → FaultList
with_faults [] faults = faults
with_faults (fault ∷ more) faults = with_faults more (with_fault fault faults)
