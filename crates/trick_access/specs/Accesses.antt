-- What all jobs may read and write, by their ranges.
use Rattle.std.specs.List.{slice_index_or}
use Rattle.std.specs.Prelude.{◌≡◌, ◌<◌, ℕ, List, [], length}
use Rattle.trick_access.specs.Ranges.{AreCellsOf}
use Rattle.trick_access.specs.declared.cells.Access.{Access}
use Rattle.trick_lang.specs.Effect.{reads, writes}
use Rattle.trick_lang.specs.declared.job.JobId.{JobId}
use Rattle.trick_lang.specs.declared.program.Program.{Program}
use Rattle.trick_lang.specs.declared.range.CellRange.{CellRange}

abbrev pub no_access : Access
no_access = record { reads = []; writes = [] }

-- the ranges of what a job may read
abbrev pub reads_of : List Access → ℕ → List CellRange
reads_of accesses k = (slice_index_or accesses k no_access).reads

-- the ranges of what a job may write
abbrev pub writes_of : List Access → ℕ → List CellRange
writes_of accesses k = (slice_index_or accesses k no_access).writes

-- These are what each job of a program may read and write, by its number.
pub record AreAccessesOf (p : Program) (accesses : List Access) : Type 0 where
  pub many : length accesses ≡ length p.jobs
  pub reads : (job : JobId) → job.0 < length p.jobs
      → AreCellsOf (length p.cells) (reads p job) (reads_of accesses job.0)
  pub writes : (job : JobId) → job.0 < length p.jobs
      → AreCellsOf (length p.cells) (writes p job) (writes_of accesses job.0)
