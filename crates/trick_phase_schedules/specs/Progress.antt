-- What holds after the beginning of a schedule, and how a board follows a play without copies.
use Rattle.std.specs.Prelude.{◌≡◌, ℕ, ℤ, IsTrue, List, [], ◌∷◌, length, slice_set}
use Rattle.trick_lang.specs.Laws.{AgreeOn}
use Rattle.trick_model.specs.Laws.{is_among}
use Rattle.trick_model.specs.Plan.{is_on}
use Rattle.trick_model.specs.Running.{After, after_jobs, apply}
use Rattle.trick_phase_schedules.specs.Play.{Playing, committed, copy_of, faults_in, first_fault, first_stages, is_done, is_due, is_taken, stage_at}
use Rattle.trick_phase_schedules.specs.Tics.{IsPredecessor, Tic, due_jobs}
use Rattle.trick_phase_schedules.specs.declared.stage.Stage.{Stage}
use Rattle.trick_phase_schedules.specs.declared.stage.Stage.TheVariants.{Done, InFlight}
use Rattle.trick_phase_schedules.specs.declared.step.Step.{Step}
use Rattle.trick_phase_schedules.specs.declared.step.Step.TheVariants.{Commit, Take}

-- The taken jobs are due, and all predecessors of a taken job are committed. So the committed jobs are
-- closed under predecessors.
pub record IsInOrder (t : Tic) (stages : List Stage) : Type 0 where
  pub many : length stages ≡ length t.plan.jobs
  pub due : (k : ℕ) → is_due (stage_at stages k) ≡ is_among k (due_jobs t)
  pub closed : (a k : ℕ) → IsPredecessor t a k → IsTrue (is_taken (stage_at stages k))
      → IsTrue (is_done (stage_at stages a))

-- the committed jobs one after the other, in key order
abbrev pub after_committed : Tic → List Stage → List ℤ → After
after_committed t stages memory =
    after_jobs t.plan (is_on t.on) t.number (committed stages (due_jobs t)) memory

-- Memory and faults are those of the committed jobs, one after the other in key order.
pub record IsSettled (t : Tic) (first memory : List ℤ) (stages : List Stage) : Type 0 where
  pub order : IsInOrder t stages
  pub memory_is : memory ≡ (after_committed t stages first).memory
  pub faults_are : faults_in stages (due_jobs t) ≡ (after_committed t stages first).faults

-- No job in flight has an input that differs from its copy.
abbrev pub AreFresh : Tic → Playing → Type 0
AreFresh t s = (k : ℕ) → stage_at s.stages k ≡ InFlight → AgreeOn (t.plan.reads k) (copy_of s k) s.memory

-- what holds after each beginning of a schedule
pub record IsSound (t : Tic) (first : List ℤ) (s : Playing) : Type 0 where
  pub settled : IsSettled t first s.memory s.stages
  pub fresh : AreFresh t s

-- ---- without copies

-- A board keeps a memory and stages: it needs no copies, since a job in flight has the inputs that the
-- memory still has.
pub record Progress : Type 0 where
  pub memory : List ℤ
  pub stages : List Stage

-- no step is done
abbrev pub begun : Tic → List ℤ → Progress
begun t memory = record { memory = memory; stages = first_stages t }

-- what is left of a play without its copies
abbrev pub progress_of : Playing → Progress
progress_of s = record { memory = s.memory; stages = s.stages }

-- the job is committed, and comes to this
abbrev pub committing : Progress → ℕ → After → Progress
committing s k after = record { memory = after.memory; stages = slice_set s.stages k (Done (first_fault after.faults)) }

-- A take marks the job; a commit runs it on the memory as it is.
abbrev pub move : Tic → Progress → Step → Progress
move t s (Take job) = record s { stages = slice_set s.stages job.0 InFlight }
move t s (Commit job) = committing s job.0 (apply t.plan (is_on t.on job.0) t.number job.0 s.memory)

-- one step after another
abbrev pub moved : Tic → Progress → List Step → Progress
moved t s [] = s
moved t s (x ∷ xs) = moved t (move t s x) xs
