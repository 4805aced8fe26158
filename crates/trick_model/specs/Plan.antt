-- A plan: what a run is told before it starts. Cells, jobs, groups and events go by their numbers.
use Rattle.std.specs.List.{slice_index_or, list_any}
use Rattle.std.specs.Prelude.{ℕ, ℤ, Bool, true, false, ◌==◌, suc, List, [], ◌∷◌, Option, Result, filter}
use Rattle.trick_lang.specs.declared.cells.Cell.{Cell}
use Rattle.trick_lang.specs.declared.class.Class.TheVariants as class
use Rattle.trick_lang.specs.declared.fault.StatementFault.{StatementFault}
use Rattle.trick_lang.specs.declared.job.Job.{Job}
use Rattle.trick_lang.specs.declared.range.CellRange.{CellRange}
use Rattle.trick_lang.specs.declared.scalar.Scalar.{Scalar}
use Rattle.trick_model.specs.declared.command.Command.{Command}
use Rattle.trick_model.specs.declared.deed.Deed.{Deed}
use Rattle.trick_model.specs.declared.depends.Depends.{Depends}
use Rattle.trick_model.specs.declared.flags.Flags.{Flags}
use Rattle.trick_model.specs.declared.group.Group.{Group}
use Rattle.trick_model.specs.declared.read_at.ReadAt.{ReadAt}
use Rattle.trick_model.specs.declared.thread.Process.{Process}
use Rattle.trick_model.specs.declared.thread.Process.TheVariants as process
use Rattle.trick_model.specs.declared.thread.Thread.{Thread}

-- An event has a name, a cycle, a condition, and numbered lists of deeds.
pub record Event : Type 0 where
  pub name : List ℕ
  pub cycle : ℕ
  -- the value of the condition in a memory
  pub condition : Option (List ℤ → ℤ)
  -- the cells of the condition
  pub reads : List CellRange
  -- what its actions ask for, by rising number
  pub actions : List (ℕ × List Deed)

-- What jobs, conditions and clients' lines mean is given by functions, so that no rule of the run
-- speaks of trees or texts.
pub record Plan : Type 0 where
  -- the full names of the cells, and their types
  pub names : List (List ℕ)
  pub scalars : List Scalar
  -- in program order, and their names
  pub jobs : List Job
  pub job_names : List (List ℕ)
  -- by cell what a job stores in a memory, or how it stops
  pub effect : ℕ → List ℤ → Result (List (Option ℤ)) StatementFault
  -- the cells that a job may read, and may write
  pub reads : ℕ → List CellRange
  pub writes : ℕ → List CellRange
  -- what a client's line says
  pub command : List ℕ → Command
  -- the tics of a software frame
  pub frame : ℕ
  pub limit : ℕ
  -- whether the run starts in Freeze
  pub frozen : Bool
  -- by rising number, thread 0 among them
  pub threads : List Thread
  pub depends : List Depends
  pub groups : List Group
  pub events : List Event
  pub read_ats : List ReadAt
  pub assigns : List (Cell × ℤ)
  -- the flags at the start
  pub jobs_on : Flags
  pub events_on : Flags
  pub groups_on : Flags

-- whether an entry is on
abbrev pub is_on : Flags → ℕ → Bool
is_on flags k = slice_index_or flags.on k false

-- ---- jobs, by their place in program order

-- a job that is none, for a number past the last one
abbrev pub no_job : Job
no_job = record {
  object = 0;
  method = 0;
  instance = 0;
  class = class.Restart;
  thread = 0;
  phase = 0;
  start = 0;
  cycle = 0;
  stop = 0;
  number = 0;
}

-- the job of a number
abbrev pub job_at : List Job → ℕ → Job
job_at jobs k = slice_index_or jobs k no_job

-- the thread of a job
abbrev pub thread_of : List Job → ℕ → ℕ
thread_of jobs k = (job_at jobs k).thread

-- the numbers from k on, as many as the list has items
abbrev pub numbers_from : {A : Type 0} → ℕ → List A → List ℕ
numbers_from k [] = []
numbers_from k (x ∷ xs) = k ∷ numbers_from (suc k) xs

-- the numbers of all jobs
abbrev pub job_numbers : List Job → List ℕ
job_numbers jobs = numbers_from 0 jobs

-- the jobs of a thread
abbrev pub jobs_of : List Job → Thread → List ℕ
jobs_of jobs thread = filter (λ k. thread_of jobs k == thread.number) (job_numbers jobs)

-- some job is on the thread
abbrev pub has_job : List Job → Thread → Bool
has_job jobs thread = list_any (λ (job : Job). job.thread == thread.number) jobs

-- ---- threads

-- there is a thread of this number
abbrev pub has_thread : List Thread → ℕ → Bool
has_thread threads number = list_any (λ (thread : Thread). thread.number == number) threads

-- Must-finish and asynchronous threads work beside the tics.
abbrev pub is_beside : Process → Bool
is_beside process.Scheduled = false
is_beside process.Async = true
is_beside process.MustFinish = true

-- whether the process type is asynchronous
abbrev pub is_async : Process → Bool
is_async process.Scheduled = false
is_async process.Async = true
is_async process.MustFinish = false

-- whether the process type is scheduled
abbrev pub is_in_tics : Process → Bool
is_in_tics process.Scheduled = true
is_in_tics process.Async = false
is_in_tics process.MustFinish = false

-- the must-finish and asynchronous threads, by rising number
abbrev pub threads_beside : Plan → List Thread
threads_beside p = filter (λ (thread : Thread). is_beside thread.process) p.threads

-- the process type of a thread, by its number
abbrev pub process_in : List Thread → ℕ → Process
process_in [] number = process.Scheduled
process_in (thread ∷ threads) number =
    elim (thread.number == number) [ true ↦ thread.process | false ↦ process_in threads number ]

-- The scheduled threads are thread 0 and the child threads of process type scheduled.
abbrev pub is_on_scheduled : List Job → List Thread → ℕ → Bool
is_on_scheduled jobs threads k = is_in_tics (process_in threads (thread_of jobs k))

-- whether the job is one of an asynchronous thread
abbrev pub is_on_async : List Job → List Thread → ℕ → Bool
is_on_async jobs threads k = is_async (process_in threads (thread_of jobs k))
