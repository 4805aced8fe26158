-- What the calls of a board answer.
use Rattle.std.specs.Prelude.{◌≡◌, ◌≢◌, ◌⊎◌, ℕ, ◌+◌, ◌<◌, ℤ, false, cond, IsTrue, List, [], ◌∷◌, Some, None}
use Rattle.trick_phase_board.specs.declared.answers.Closed.{Closed}
use Rattle.trick_phase_board.specs.declared.answers.Closed.TheVariants.{Left, Memory}
use Rattle.trick_phase_board.specs.declared.answers.Commit.{Commit}
use Rattle.trick_phase_board.specs.declared.answers.Commit.TheVariants.{Committed, Stale, Gone, NotTaken}
use Rattle.trick_phase_board.specs.declared.answers.Ran.{Ran}
use Rattle.trick_phase_board.specs.declared.answers.Ran.TheVariants as ran
use Rattle.trick_phase_board.specs.declared.answers.Took.{Took}
use Rattle.trick_phase_board.specs.declared.answers.Took.TheVariants.{Took as WasTaken, NotYet, ThreadDone}
use Rattle.trick_phase_board.specs.declared.search.Next.{Next}
use Rattle.trick_phase_board.specs.declared.search.Next.TheVariants as next
use Rattle.trick_eval.specs.Bench.{BenchView, IsFirstDifference, the_job}
use Rattle.trick_lang.specs.Laws.{AgreeOn}
use Rattle.trick_lang.specs.declared.job.JobId.{JobId}
use Rattle.trick_lang.specs.declared.range.CellRange.{CellRange}
use Rattle.trick_model.specs.FaultList.{FaultList, with_faults}
use Rattle.trick_model.specs.Order.{precedes}
use Rattle.trick_model.specs.Plan.{thread_of}
use Rattle.trick_model.specs.Running.{After}
use Rattle.trick_phase_schedules.specs.Play.{copy_of, is_done, opening, played, stage_at}
use Rattle.trick_phase_schedules.specs.Progress.{Progress, begun, moved}
use Rattle.trick_phase_schedules.specs.Schedule.{IsBegun}
use Rattle.trick_phase_schedules.specs.Tics.{IsDueIn, IsPredecessor, Tic}
use Rattle.trick_phase_schedules.specs.declared.stage.Stage.{Stage}
use Rattle.trick_phase_schedules.specs.declared.stage.Stage.TheVariants.{InFlight, Waiting}
use Rattle.trick_phase_schedules.specs.declared.step.Step.{Step}

-- no job of the kind has a smaller key
pub record IsLeast (t : Tic) (P : ℕ → Type 0) (k : ℕ) : Type 0 where
  pub holds : P k
  pub least : (j : ℕ) → P j → IsTrue (precedes t.plan.jobs j k) → ⊥

-- the job is on the thread, and waits
abbrev pub WaitsOn : Tic → List Stage → ℕ → ℕ → Type 0
WaitsOn t stages thread k = (thread_of t.plan.jobs k ≡ thread) × (stage_at stages k ≡ Waiting)

-- the job is on the thread, and is in flight
abbrev pub FliesOn : Tic → List Stage → ℕ → ℕ → Type 0
FliesOn t stages thread k = (thread_of t.plan.jobs k ≡ thread) × (stage_at stages k ≡ InFlight)

-- a predecessor that is not committed
abbrev pub IsMissing : Tic → List Stage → ℕ → ℕ → Type 0
IsMissing t stages k a = IsPredecessor t a k × (is_done (stage_at stages a) ≡ false)

-- ---- take

-- the thread's next job is the least that waits, and all of its predecessors are committed
pub record IsReadyOn (t : Tic) (stages : List Stage) (thread k : ℕ) : Type 0 where
  pub next : IsLeast t (WaitsOn t stages thread) k
  pub ready : (a : ℕ) → IsMissing t stages k a → ⊥

-- it waits for the least of those that are not committed
pub record WaitsFor (t : Tic) (stages : List Stage) (thread job missing : ℕ) : Type 0 where
  pub next : IsLeast t (WaitsOn t stages thread) job
  pub for_ : IsLeast t (IsMissing t stages job) missing

-- the thread's last job is in flight
pub record LastFlies (t : Tic) (stages : List Stage) (thread job missing : ℕ) : Type 0 where
  pub none : (k : ℕ) → WaitsOn t stages thread k → ⊥
  pub flies : IsLeast t (FliesOn t stages thread) job
  pub same : missing ≡ job

-- What a thread can do next.
abbrev pub CanDo : Tic → List Stage → ℕ → Next → Type 0
CanDo t stages thread (next.Ready job) = IsReadyOn t stages thread job.0
CanDo t stages thread (next.Waits job missing) = WaitsFor t stages thread job.0 missing.0
    ⊎ LastFlies t stages thread job.0 missing.0
CanDo t stages thread next.Nothing = (j : ℕ) → IsDueIn t j → thread_of t.plan.jobs j ≡ thread
    → IsTrue (is_done (stage_at stages j))

-- What a take may answer, by the job that is then in the bench.
abbrev pub Takes : Tic → List Stage → ℕ → ℕ → Took → Type 0
Takes t stages thread k WasTaken = IsReadyOn t stages thread k
Takes t stages thread k (NotYet job missing) = WaitsFor t stages thread job.0 missing.0
    ⊎ LastFlies t stages thread job.0 missing.0
Takes t stages thread k ThreadDone = (j : ℕ) → IsDueIn t j → thread_of t.plan.jobs j ≡ thread
    → IsTrue (is_done (stage_at stages j))

-- A take fills the bench with what the job reads, under the phase.
pub record IsFilledBy (phase : ℕ) (ranges : List CellRange) (memory : List ℤ) (old new : BenchView)
    (job : JobId) : Type 0 where
  pub bench : new ≡ record old { phase = phase; job = Some job; outcome = None; inputs = new.inputs }
  pub inputs : AgreeOn ranges new.inputs memory

-- ---- commit

-- What a commit may answer for a bench with the job.
abbrev pub Commits : ℕ → List Stage → List ℤ → List CellRange → BenchView → JobId → Commit → Type 0
Commits phase stages memory ranges bench job Committed =
    (bench.phase ≡ phase) × (stage_at stages job.0 ≡ InFlight) × AgreeOn ranges memory bench.inputs
Commits phase stages memory ranges bench job (Stale cell kept given) =
    (bench.phase ≡ phase) × (stage_at stages job.0 ≡ InFlight)
    × IsFirstDifference ranges memory bench.inputs cell.0 kept given
Commits phase stages memory ranges bench job (Gone now given) = (now ≡ phase) × (given ≡ bench.phase) × (given ≢ now)
Commits phase stages memory ranges bench job (NotTaken other) =
    (bench.phase ≡ phase) × (other ≡ job) × (stage_at stages job.0 ≢ InFlight)

-- the bench was given something else than the memory has
abbrev pub IsStale : Commit → Type 0
IsStale Committed = ⊥
IsStale (Stale cell kept given) = Unit {0}
IsStale (Gone now given) = ⊥
IsStale (NotTaken other) = ⊥

-- These steps begin a schedule and leave a board like this.
pub record IsLeftBy (t : Tic) (first : List ℤ) (steps : List Step) (progress : Progress) : Type 0 where
  pub is_begun : IsBegun t steps
  pub left : progress ≡ moved t (begun t first) steps

-- The inputs of a bench are what its job was given at its take.
abbrev pub HasCopy : Tic → List ℤ → List Step → BenchView → Type 0
HasCopy t first steps bench =
    let k = (the_job bench.job).0 in AgreeOn (t.plan.reads k) bench.inputs
    (copy_of (played t (opening t first) steps) k)

-- ---- take and commit at once

-- What a run may answer: what the thread can do next, and the job that it is.
abbrev pub Runs : Tic → List Stage → ℕ → Ran → Type 0
Runs t stages thread (ran.Done job) = CanDo t stages thread (next.Ready job)
Runs t stages thread (ran.NotYet job missing) = CanDo t stages thread (next.Waits job missing)
Runs t stages thread ran.ThreadDone = CanDo t stages thread next.Nothing

-- what holds of the job that is run
abbrev pub IfDone : Ran → (JobId → Type 0) → Type 0
IfDone (ran.Done job) P = P job
IfDone (ran.NotYet job missing) P = Unit {0}
IfDone ran.ThreadDone P = Unit {0}

-- what holds where no job is run
abbrev pub IfNotDone : Ran → Type 0 → Type 0
IfNotDone (ran.Done job) P = Unit {0}
IfNotDone (ran.NotYet job missing) P = P
IfNotDone ran.ThreadDone P = P

-- The bench is empty, and its buffers are as they were.
abbrev pub IsEmptiedOf : BenchView → BenchView → Type 0
IsEmptiedOf old new = new ≡ record old { phase = 0; job = None; outcome = None; inputs = new.inputs }

-- ---- close

-- how many of these jobs are not committed
abbrev pub open_count : List Stage → List ℕ → ℕ
open_count stages [] = 0
open_count stages (k ∷ ks) = cond (is_done (stage_at stages k)) 0 1 + open_count stages ks

-- what holds of the memory that a close gives
abbrev pub IfMemory : {M : Type 0} → Closed M → (M → Type 0) → Type 0
IfMemory (Memory m) P = P m
IfMemory (Left count) P = Unit {0}

-- what holds where jobs are left
abbrev pub IfLeft : {M : Type 0} → Closed M → Type 0 → Type 0
IfLeft (Memory m) P = Unit {0}
IfLeft (Left count) P = P

-- no job is left, or so many are
abbrev pub Counts : {M : Type 0} → ℕ → Closed M → Type 0
Counts open_jobs (Memory m) = open_jobs ≡ 0
Counts open_jobs (Left count) = (count ≡ open_jobs) × (0 < count)

-- a memory and the faults that were added are those that jobs come to
pub record ComesTo (after : After) (memory : List ℤ) (old new : FaultList) : Type 0 where
  pub memory_is : memory ≡ after.memory
  pub faults_are : new ≡ with_faults after.faults old
