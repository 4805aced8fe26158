-- How the next job of a thread is found in the tables of a board.
use Rattle.std.specs.List.{slice_index_or}
use Rattle.std.specs.Prelude.{◌≡◌, ℕ, ◌==◌, Bool, true, false, cond, if◌then◌else◌, List, [], ◌∷◌, Option, Some, None, take}
use Rattle.trick_phase_board.specs.declared.search.Next.{Next}
use Rattle.trick_phase_board.specs.declared.search.Next.TheVariants as next
use Rattle.trick_phase_board.specs.declared.search.Wanted.{Wanted}
use Rattle.trick_phase_board.specs.declared.search.Wanted.TheVariants as wanted
use Rattle.trick_phase_board.specs.declared.tables.Tables.{Tables}
use Rattle.trick_lang.specs.declared.job.JobId.{JobId}
use Rattle.trick_model.specs.Order.{precedes}
use Rattle.trick_model.specs.Plan.{Plan}
use Rattle.trick_phase_schedules.specs.Play.{stage_at}
use Rattle.trick_phase_schedules.specs.declared.stage.Stage.{Stage}
use Rattle.trick_phase_schedules.specs.declared.stage.Stage.TheVariants.{Done, Idle, InFlight, Waiting}

-- the job waits
abbrev pub is_waiting : Stage → Bool
is_waiting Idle = false
is_waiting Waiting = true
is_waiting InFlight = false
is_waiting (Done fault) = false

-- the job is in flight
abbrev pub is_in_flight : Stage → Bool
is_in_flight Idle = false
is_in_flight Waiting = false
is_in_flight InFlight = true
is_in_flight (Done fault) = false

-- the job is due and not committed
abbrev pub is_open : Stage → Bool
is_open Idle = false
is_open Waiting = true
is_open InFlight = true
is_open (Done fault) = false

-- a stage is of the wanted kind
abbrev pub meets : Wanted → Stage → Bool
meets wanted.Waiting stage = is_waiting stage
meets wanted.InFlight stage = is_in_flight stage
meets wanted.Open stage = is_open stage

-- the first job of a list that passes a test
abbrev pub find_first : (ℕ → Bool) → List JobId → Option JobId
find_first test [] = None
find_first test (job ∷ jobs) = cond (test job.0) (Some job) (find_first test jobs)

-- the first job of a list that is of the wanted kind
abbrev pub find_wanted : Wanted → List Stage → List JobId → Option JobId
find_wanted kind stages jobs = find_first (λ k. meets kind (stage_at stages k)) jobs

-- None of the first jobs of a list is open.
abbrev pub IsPassed : List Stage → List JobId → ℕ → Type 0
IsPassed stages jobs passed = find_wanted wanted.Open stages (take passed jobs) ≡ None

-- So it is with the jobs of each thread.
abbrev pub ArePassed : Tables → List Stage → List ℕ → Type 0
ArePassed tables stages passed =
    (thread : ℕ) → IsPassed stages (slice_index_or tables.lines thread []) (slice_index_or passed thread 0)

-- a job that is another one
abbrev pub other_than : JobId → Option JobId → Option JobId
other_than job None = None
other_than job (Some other) = if other.0 == job.0 then None else Some other

-- Where nothing is left before a waiting job of a thread, it is the thread's first open job.
abbrev pub AreFirst : Tables → List Stage → (ℕ → ℕ) → ℕ → Type 0
AreFirst tables stages own thread =
    (job : JobId) → find_wanted wanted.Waiting stages (slice_index_or tables.lines thread []) ≡ Some job → own job.0 ≡ 0
    → other_than job (find_wanted wanted.Open stages (slice_index_or tables.lines thread [])) ≡ None

-- the one of smaller key, if there is one
abbrev pub least_of : Plan → Option JobId → Option JobId → Option JobId
least_of p None other = other
least_of p (Some one) None = Some one
least_of p (Some one) (Some other) = if precedes p.jobs other.0 one.0 then Some other else Some one

-- the least predecessor of a waiting job that is not committed: one before it on its thread, or one that
-- it depends on
abbrev pub missing_in : Plan → Tables → List Stage → ℕ → JobId → Option JobId
missing_in p tables stages thread job =
    least_of p (other_than job (find_wanted wanted.Open stages (slice_index_or tables.lines thread [])))
    (find_wanted wanted.Open stages (slice_index_or tables.depended job.0 []))

abbrev pub ready_or : JobId → Option JobId → Next
ready_or job None = next.Ready job
ready_or job (Some missing) = next.Waits job missing

abbrev pub last_of : Option JobId → Next
last_of None = next.Nothing
last_of (Some job) = next.Waits job job

abbrev pub next_by : Plan → Tables → List Stage → ℕ → Option JobId → Next
next_by p tables stages thread None =
    last_of (find_wanted wanted.InFlight stages (slice_index_or tables.lines thread []))
next_by p tables stages thread (Some job) = ready_or job (missing_in p tables stages thread job)

-- what the thread can do next
abbrev pub next_in : Plan → Tables → List Stage → ℕ → Next
next_in p tables stages thread =
    next_by p tables stages thread (find_wanted wanted.Waiting stages (slice_index_or tables.lines thread []))
