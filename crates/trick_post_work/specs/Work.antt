-- What a thread beside the tics is handed, and what it comes to.
use Rattle.std.specs.Prelude.{◌≡◌, ℕ, ◌+◌, ◌-◌, ◌≤◌, ℤ, List, [], flat_map, filter, true, false, Option, Some, None}
use Rattle.trick_model.specs.Beside.{find_thread, flag_in, replaced, spread, tics_from, zeros}
use Rattle.trick_model.specs.Access.{may_write, scope}
use Rattle.trick_model.specs.Order.{in_key_order, is_due}
use Rattle.trick_model.specs.Plan.{Plan, jobs_of, threads_beside}
use Rattle.trick_model.specs.Running.{After, after_jobs}
use Rattle.trick_base.specs.Time.{tic_limit}
use Rattle.trick_model.specs.ValidState.{IsRecord}
use Rattle.trick_model.specs.declared.taken.Taken.{Taken}
use Rattle.trick_model.specs.declared.thread.Process.TheVariants as process
use Rattle.trick_model.specs.declared.thread.Process.{Process}
use Rattle.trick_model.specs.declared.thread.Thread.{Thread}
use Rattle.trick_post_work.specs.declared.posts.Job1.{Job1}
use Rattle.trick_post_work.specs.declared.posts.Job1.TheVariants as work

-- ---- what is handed

-- What was handed to a thread and is not published yet: its record and its work.
pub record Started : Type 0 where
  pub taken : Taken
  pub work : Job1

-- a thread that is none, for a number that no thread beside the tics has
abbrev pub no_thread : Thread
no_thread = record { number = 0; process = process.Scheduled; cycle = 0; named = false }

-- the thread that was found
abbrev pub found_or_none : Option (ℕ × Thread) → Thread
found_or_none None = no_thread
found_or_none (Some found) = found.1

-- the must-finish or asynchronous thread of a number
abbrev pub thread_at : Plan → ℕ → Thread
thread_at p number = found_or_none (find_thread number (threads_beside p))

-- Must-finish threads work tics, and asynchronous threads a round.
abbrev pub IsKindOf : Process → Job1 → Type 0
IsKindOf process.Scheduled w = ⊥
IsKindOf process.MustFinish (work.Frame first last) = last ≤ tic_limit
IsKindOf process.MustFinish work.Round = ⊥
IsKindOf process.Async (work.Frame first last) = ⊥
IsKindOf process.Async work.Round = Unit {0}

-- What a thread of this number can be handed: a record of its own that is held, and work of its kind.
pub record CanStart (p : Plan) (number : ℕ) (taken : Taken) (w : Job1) : Type 0 where
  pub kind : IsKindOf (thread_at p number).process w
  pub held : taken.held ≡ true
  pub right : IsRecord p (thread_at p number) taken

-- ---- what it comes to

-- The tics from the first to the last; none where the first is above the last.
abbrev pub tics_between : ℕ → ℕ → List ℕ
tics_between first last = tics_from first (last + 1 - first)

-- The jobs that run: those of the thread that are due at the tics, in the order of tic and then of
-- key; or each job of the thread once, in key order.
abbrev pub jobs_at_work : Plan → Thread → Taken → Job1 → List ℕ
jobs_at_work p thread taken (work.Frame first last) =
    flat_map (λ u. in_key_order p.jobs (filter (is_due p taken.on u) (jobs_of p.jobs thread))) (tics_between first last)
jobs_at_work p thread taken work.Round = in_key_order p.jobs (jobs_of p.jobs thread)

-- the fold over the taken cells, with the taken flags; its faults have the tic of publication
abbrev pub folded : Plan → Thread → Started → ℕ → After
folded p thread started tic =
    after_jobs p (flag_in (jobs_of p.jobs thread) started.taken.on.on) tic
    (jobs_at_work p thread started.taken started.work)
    (spread (scope p thread) started.taken.cells (zeros p))

-- To publish it gives every cell that a job that ran may write the number that the fold ends with.
abbrev pub publication : Plan → Thread → Started → ℕ → List ℤ → After
publication p thread started tic memory =
    let after = folded p thread started tic in
    record {
      memory = replaced (may_write p (jobs_at_work p thread started.taken started.work)) 0 after.memory memory;
      faults = after.faults;
    }

-- What a memory becomes, and which faults there are, where the thread of this number was handed that.
abbrev pub finished : Plan → ℕ → Option Started → ℕ → List ℤ → After
finished p number None tic memory = record { memory = memory; faults = [] }
finished p number (Some started) tic memory = publication p (thread_at p number) started tic memory
