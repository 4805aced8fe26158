-- What is in flight of the threads beside the tics.
use Rattle.std.specs.List.{slice_index_or}
use Rattle.std.specs.Prelude.{◌≡◌, ℕ, ◌+◌, ◌-◌, ◌%◌, ◌==◌, ◌<◌, ◌≤◌, min, true, false, IsTrue, List, [], Option, Some, None, length}
use Rattle.trick_phase_jobs.specs.Belongs.{IsMemoryOf}
use Rattle.trick_lang.specs.declared.scalar.Scalar.{Scalar}
use Rattle.trick_model.specs.Beside.{each_thread, ends_at, publish, take, where_ends}
use Rattle.trick_model.specs.Plan.{Plan, threads_beside}
use Rattle.trick_model.specs.PlanOf.{plan_of}
use Rattle.trick_model.specs.State.{State, nothing_taken, taken_at}
use Rattle.trick_base.specs.Time.{tic_limit}
use Rattle.trick_model.specs.ValidState.{IsStateOf}
use Rattle.trick_model.specs.declared.plan.Plan.{Plan as PlanValue}
use Rattle.trick_model.specs.declared.taken.Taken.{Taken}
use Rattle.trick_model.specs.declared.thread.Process.TheVariants as process
use Rattle.trick_model.specs.declared.thread.Process.{Process}
use Rattle.trick_model.specs.declared.thread.Thread.{Thread}
use Rattle.trick_post_work.specs.Work.{Started, no_thread}
use Rattle.trick_post_work.specs.declared.posts.Job1.TheVariants as work
use Rattle.trick_post_work.specs.declared.posts.Job1.{Job1}
use Rattle.trick_post_work.specs.declared.posts.Posts.{Ghosts}

-- ---- what a thread has to do

-- the first tic from this one on at which a cycle ends
abbrev pub end_of : ℕ → ℕ → ℕ
end_of cycle tic = elim ((tic % cycle) == 0) [ true ↦ tic | false ↦ tic + (cycle - tic % cycle) ]

-- The tics of the cycle that ends at a tic; at tic 0 none. Nothing is published after the last time, so
-- that no tic after it counts.
abbrev pub frame_to : ℕ → ℕ → Job1
frame_to cycle end = elim (end == 0) [
  | true ↦ work.Frame 1 0
  | false ↦ work.Frame (end - cycle) (min (end - 1) tic_limit)
]

-- what a thread has to do that was given its record before this tic
abbrev pub work_at : Thread → ℕ → Job1
work_at thread tic = elim (thread.process) [
  | process.Scheduled ↦ work.Round
  | process.Async ↦ work.Round
  | process.MustFinish ↦ frame_to thread.cycle (end_of thread.cycle tic)
]

-- ---- what is in flight

-- Of a thread with an empty record nothing is in flight, else its record and its work.
abbrev pub flight : Thread → ℕ → Taken → Option Started
flight thread tic taken = elim (taken.held) [
  | true ↦ Some (record { taken = taken; work = work_at thread tic })
  | false ↦ None
]

-- the thread of a place among those beside the tics
abbrev pub thread_in : Plan → ℕ → Thread
thread_in p place = slice_index_or (threads_beside p) place no_thread

-- In flight is, for each thread beside the tics, what its record tells before this tic.
abbrev pub IsInFlight : Plan → (ℕ → Option Started) → ℕ → List Taken → Type 0
IsInFlight p in_flight tic taken =
    (place : ℕ) → place < length (threads_beside p)
    → in_flight (thread_in p place).number ≡ flight (thread_in p place) tic (slice_index_or taken place nothing_taken)

-- Of no thread beside the tics anything is in flight.
abbrev pub IsFree : Plan → (ℕ → Option Started) → Type 0
IsFree p in_flight = (place : ℕ) → place < length (threads_beside p) → in_flight (thread_in p place).number ≡ None

-- What is in flight goes with a state before a tic: it is a state of the plan, its memory has the plan's
-- cells, and in flight is what its records tell.
pub record GoesWith (plan : PlanValue) (in_flight : ℕ → Option Started) (tic : ℕ) (s : State)
    (scalars : List Scalar) : Type 0 where
  pub valid : IsStateOf (plan_of plan) s
  pub memory : IsMemoryOf plan.program s.memory scalars
  pub tied : IsInFlight (plan_of plan) in_flight tic s.taken

-- Posts of one plan, of which no round was asked between the two.
pub record AsksNothing {S : Type 0} (posts : Ghosts S) (old new : S) : Type 0 where
  pub plan : posts.plan new ≡ posts.plan old
  pub late : posts.lateness old ≤ posts.lateness new
  pub asked : posts.asked old [] new

-- ---- where cycles end

-- What a thread has to do may be published at a tic: its cycle ends there, or it is asynchronous.
abbrev pub IsOver : Process → ℕ → ℕ → Type 0
IsOver process.Scheduled cycle tic = ⊥
IsOver process.Async cycle tic = Unit {0}
IsOver process.MustFinish cycle tic = (tic % cycle ≡ 0) × (tic ≤ tic_limit)

-- all threads whose cycle ends at the tic have published
abbrev pub ended_published : Plan → ℕ → State → State
ended_published p tic s = each_thread (where_ends (λ place thread. publish p place thread tic) tic) 0
    (threads_beside p) s

-- all threads whose cycle ends at the tic have taken
abbrev pub ended_taken : Plan → ℕ → State → State
ended_taken p tic s = each_thread (where_ends (take p) tic) 0 (threads_beside p) s

-- The threads from a place on, up to another, whose cycle ends at the tic hold nothing.
abbrev pub HoldNothing : Plan → ℕ → ℕ → ℕ → State → Type 0
HoldNothing p tic from to s =
    (place : ℕ) → from ≤ place → place < to → IsTrue (ends_at tic (thread_in p place)) → (taken_at s place).held ≡ false
