-- What belongs to a program: memories and jobs.
use Rattle.std.specs.Prelude.{◌≡◌, ◌<◌, ℤ, All, List, length}
use Rattle.trick_lang.specs.Effect.{scalars_of}
use Rattle.trick_lang.specs.declared.job.JobId.{JobId}
use Rattle.trick_lang.specs.declared.program.Program.{Program}
use Rattle.trick_lang.specs.declared.scalar.Scalar.{Scalar}

-- A memory of a program has a number for each of its cells, and their types.
pub record IsMemoryOf (p : Program) (numbers : List ℤ) (scalars : List Scalar) : Type 0 where
  pub as_many : length numbers ≡ length p.cells
  pub of_types : scalars ≡ scalars_of p.cells

-- These are jobs of the program.
abbrev pub AreJobsOf : Program → List JobId → Type 0
AreJobsOf p jobs = All (λ (job : JobId). job.0 < length p.jobs) jobs
