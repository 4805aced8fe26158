-- Jobs in a line, and their next tics.
use Rattle.std.specs.List.{slice_index_or}
use Rattle.std.specs.Prelude.{◌≡◌, ℕ, ◌+◌, ◌<◌, ◌≤◌, true, false, List, length, filter}
use Rattle.trick_cycle.specs.Due.{is_due_at}
use Rattle.trick_cycle.specs.declared.Due.{Due}
use Rattle.trick_lang.specs.declared.class.Class.TheVariants as class
use Rattle.trick_lang.specs.declared.job.Job.{Job}
use Rattle.trick_lang.specs.declared.job.JobId.{JobId}
use Rattle.trick_model.specs.Order.{is_of_class, jobs_in}
use Rattle.trick_model.specs.Plan.{Plan, is_on_scheduled, job_at}
use Rattle.trick_model.specs.Valid.{ids}
use Rattle.trick_queue.specs.Calendar.{IsNext}
use Rattle.trick_queue.specs.Tree.{never}

-- The jobs of class scheduled on scheduled threads, in key order.
abbrev pub queue_of : Plan → List ℕ
queue_of p = filter (is_on_scheduled p.jobs p.threads) (jobs_in p.jobs class.Scheduled)

-- The start, cycle and stop of a job.
abbrev pub times_at : List Job → ℕ → Due
times_at jobs k = let job = job_at jobs k in record { start = job.start; cycle = job.cycle; stop = job.stop }

-- a job that is none
abbrev pub no_id : JobId
no_id = record { 0 = 0 }

-- the number of the job at a place
abbrev pub id_at : List JobId → ℕ → ℕ
id_at ids place = (slice_index_or ids place no_id).0

-- So it is with these jobs, from one place to another.
abbrev pub AreNext : List Job → List JobId → List ℕ → (from first end : ℕ) → Type 0
AreNext jobs ids tics from first end =
    (place : ℕ) → first ≤ place → place < end
    → IsNext (times_at jobs (id_at ids place)) from (slice_index_or tics place never)

-- The jobs at these places are of class scheduled.
abbrev pub AreScheduled : List Job → List JobId → Type 0
AreScheduled jobs ids = (place : ℕ) → place < length ids → is_of_class jobs class.Scheduled (id_at ids place) ≡ true

-- The job is not due at the tic, and its next tic is one of those after it.
pub record IsKnown (d : Due) (tic next_tic : ℕ) : Type 0 where
  pub not_due : is_due_at d tic ≡ false
  pub next : IsNext d (tic + 1) next_tic

-- So it is with these jobs, from one place to another, whose next tic is later.
abbrev pub AreKnown : List Job → List JobId → List ℕ → (tic first end : ℕ) → Type 0
AreKnown jobs ids tics tic first end =
    (place : ℕ) → first ≤ place → place < end → tic < slice_index_or tics place never
    → IsKnown (times_at jobs (id_at ids place)) tic (slice_index_or tics place never)

-- A tic is passed: these are its due jobs, and each job has its next tic after it.
pub record IsPassed (jobs : List Job) (ids_of : List JobId) (tics : List ℕ) (tic : ℕ) (due : List JobId) : Type 0 where
  pub as_many : length tics ≡ length ids_of
  pub next : AreNext jobs ids_of tics (tic + 1) 0 (length ids_of)
  pub due_is : ids due ≡ filter (λ k. is_due_at (times_at jobs k) tic) (ids ids_of)
