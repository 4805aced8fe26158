-- What takes and commits make of a memory.
use Rattle.std.specs.List.{slice_index_or}
use Rattle.std.specs.Option.{option_to_list}
use Rattle.std.specs.Prelude.{ℕ, suc, ℤ, pos, Bool, true, false, if◌then◌else◌, List, [], ◌∷◌, ◌++◌, Option, Some, None, filter, length, replicate, slice_set}
use Rattle.trick_lang.specs.Access.{is_in}
use Rattle.trick_lang.specs.declared.fault.JobFault.{JobFault}
use Rattle.trick_lang.specs.declared.range.CellRange.{CellRange}
use Rattle.trick_model.specs.Plan.{is_on}
use Rattle.trick_model.specs.Running.{After, outcome}
use Rattle.trick_phase_schedules.specs.Tics.{Tic, due_jobs}
use Rattle.trick_phase_schedules.specs.declared.stage.Stage.{Stage}
use Rattle.trick_phase_schedules.specs.declared.stage.Stage.TheVariants.{Done, Idle, InFlight, Waiting}
use Rattle.trick_phase_schedules.specs.declared.step.Step.{Step}
use Rattle.trick_phase_schedules.specs.declared.step.Step.TheVariants.{Commit, Take}

-- ---- stages

-- the stage of a job; one that is not there is not due
abbrev pub stage_at : List Stage → ℕ → Stage
stage_at stages k = slice_index_or stages k Idle

-- the job is due
abbrev pub is_due : Stage → Bool
is_due Idle = false
is_due Waiting = true
is_due InFlight = true
is_due (Done fault) = true

-- the job is taken
abbrev pub is_taken : Stage → Bool
is_taken Idle = false
is_taken Waiting = false
is_taken InFlight = true
is_taken (Done fault) = true

-- the job is committed
abbrev pub is_done : Stage → Bool
is_done Idle = false
is_done Waiting = false
is_done InFlight = false
is_done (Done fault) = true

-- the fault that a committed job adds
abbrev pub faults_of : Stage → List JobFault
faults_of Idle = []
faults_of Waiting = []
faults_of InFlight = []
faults_of (Done fault) = option_to_list fault

-- the faults of the committed ones among these jobs, in their order
abbrev pub faults_in : List Stage → List ℕ → List JobFault
faults_in stages [] = []
faults_in stages (k ∷ ks) = faults_of (stage_at stages k) ++ faults_in stages ks

-- the committed ones among these jobs
abbrev pub committed : List Stage → List ℕ → List ℕ
committed stages ks = filter (λ k. is_done (stage_at stages k)) ks

-- these jobs wait
abbrev pub with_waiting : List ℕ → List Stage → List Stage
with_waiting [] stages = stages
with_waiting (k ∷ ks) stages = with_waiting ks (slice_set stages k Waiting)

-- at the beginning each due job waits
abbrev pub first_stages : Tic → List Stage
first_stages t = with_waiting (due_jobs t) (replicate (length t.plan.jobs) Idle)

-- ---- one job

-- a memory in the cells of the ranges, and 0 elsewhere, from a cell on
abbrev pub copied_from : ℕ → List CellRange → List ℤ → List ℤ
copied_from cell ranges [] = []
copied_from cell ranges (n ∷ ns) = (if is_in ranges cell then n else pos 0) ∷ copied_from (suc cell) ranges ns

-- the copy of a memory that a take makes
abbrev pub copied : List CellRange → List ℤ → List ℤ
copied ranges memory = copied_from 0 ranges memory

-- What a job makes of a memory by its effect on a copy: nothing where it is off.
abbrev pub made_where : Bool → Tic → ℕ → List ℤ → List ℤ → After
made_where false t k copy memory = record { memory = memory; faults = [] }
made_where true t k copy memory = outcome t.number k memory (t.plan.effect k copy)

abbrev pub made : Tic → ℕ → List ℤ → List ℤ → After
made t k copy memory = made_where (is_on t.on k) t k copy memory

-- the fault of a job, if it has one
abbrev pub first_fault : List JobFault → Option JobFault
first_fault [] = None
first_fault (fault ∷ more) = Some fault

-- ---- play

-- A play has a memory, the stage of each job, and the copy that each job was given at its take.
pub record Playing : Type 0 where
  pub memory : List ℤ
  pub stages : List Stage
  pub copies : List (List ℤ)

-- the copy of a job
abbrev pub copy_of : Playing → ℕ → List ℤ
copy_of s k = slice_index_or s.copies k []

-- no step is done
abbrev pub opening : Tic → List ℤ → Playing
opening t memory = record {
  memory = memory;
  stages = first_stages t;
  copies = replicate (length t.plan.jobs) [];
}

-- A take copies the memory in the cells that the job may read.
abbrev pub taken : Tic → Playing → ℕ → Playing
taken t s k = record s {
  stages = slice_set s.stages k InFlight;
  copies = slice_set s.copies k (copied (t.plan.reads k) s.memory);
}

-- what a committed job leaves
abbrev pub with_commit : Playing → ℕ → After → Playing
with_commit s k after = record s {
  memory = after.memory;
  stages = slice_set s.stages k (Done (first_fault after.faults));
}

-- A commit overwrites the memory by the effect on the copy; a fault, and a job that is off, leave it.
abbrev pub step : Tic → Playing → Step → Playing
step t s (Take job) = taken t s job.0
step t s (Commit job) = with_commit s job.0 (made t job.0 (copy_of s job.0) s.memory)

-- one step after another
abbrev pub played : Tic → Playing → List Step → Playing
played t s [] = s
played t s (x ∷ xs) = played t (step t s x) xs
