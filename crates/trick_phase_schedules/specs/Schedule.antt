-- Which lists of takes and commits are schedules of a tic.
use Rattle.std.specs.List.{Contains}
use Rattle.std.specs.Prelude.{ℕ, List, [], ◌∷◌, ◌++◌}
use Rattle.trick_lang.specs.declared.job.JobId.{JobId}
use Rattle.trick_phase_schedules.specs.Tics.{IsDueIn, IsPredecessor, Tic}
use Rattle.trick_phase_schedules.specs.declared.step.Step.{Step}
use Rattle.trick_phase_schedules.specs.declared.step.Step.TheVariants.{Commit, Take}

-- the job of a number
abbrev pub job_of : ℕ → JobId
job_of k = record { 0 = k }

-- A step can follow others where it is not among them, and is of a due job. A take comes after the
-- commits of all predecessors of its job, and a commit after its take.
abbrev pub CanFollow : Tic → List Step → Step → Type 0
CanFollow t before (Take job) =
    IsDueIn t job.0 × (Contains before (Take job) → ⊥)
    × ((a : ℕ) → IsPredecessor t a job.0 → Contains before (Commit (job_of a)))
CanFollow t before (Commit job) = Contains before (Take job) × (Contains before (Commit job) → ⊥)

-- each of these steps can follow those before it
abbrev pub CanAllFollow : Tic → List Step → List Step → Type 0
CanAllFollow t before [] = Unit {0}
CanAllFollow t before (x ∷ xs) = CanFollow t before x × CanAllFollow t (before ++ x ∷ []) xs

-- The steps are the beginning of a schedule.
abbrev pub IsBegun : Tic → List Step → Type 0
IsBegun t steps = CanAllFollow t [] steps

-- A schedule has each due job once in each form, and no other job.
pub record IsSchedule (t : Tic) (steps : List Step) : Type 0 where
  pub begun : IsBegun t steps
  pub whole : (k : ℕ) → IsDueIn t k → Contains steps (Commit (job_of k))

-- these jobs, each taken and at once committed
abbrev pub one_by_one : List ℕ → List Step
one_by_one [] = []
one_by_one (k ∷ ks) = Take (job_of k) ∷ Commit (job_of k) ∷ one_by_one ks
