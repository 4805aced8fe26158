-- Which plans are accepted.
use Rattle.std.specs.Prelude.{◌≡◌, ◌≢◌, ◌⊎◌, ℕ, ◌<◌, Bool, ◌&&◌, ◌||◌, IsTrue, All, Any, filter, length}
use Rattle.trick_cycle.specs.Shared.{IsShared, Covers}
use Rattle.trick_lang.specs.Access.{is_in}
use Rattle.trick_lang.specs.declared.cells.Cell.{Cell}
use Rattle.trick_lang.specs.declared.class.Class.TheVariants as class
use Rattle.trick_model.specs.Access.{IsReached, may_write, reads_cell, writes_cell}
use Rattle.trick_model.specs.Order.{is_of_class, precedes}
use Rattle.trick_model.specs.Plan.{Plan, Event, is_beside, has_job, is_on_scheduled, jobs_of, thread_of}
use Rattle.trick_model.specs.Time.{due_of}
use Rattle.trick_model.specs.declared.depends.Depends.{Depends}
use Rattle.trick_model.specs.declared.group.Group.{Group}
use Rattle.trick_model.specs.declared.thread.Thread.{Thread}

-- ---- independent and ordered jobs

-- no cell is in both sets
abbrev pub AreApart : (ℕ → Bool) → (ℕ → Bool) → Type 0
AreApart some others = (cell : ℕ) → IsTrue (some cell) → IsTrue (others cell) → ⊥

-- Two jobs are independent if neither may write a cell which the other may read or write.
pub record AreIndependent (p : Plan) (a b : ℕ) : Type 0 where
  pub from : AreApart (writes_cell p a) (reads_cell p b)
  pub to : AreApart (writes_cell p b) (reads_cell p a)
  pub both : AreApart (writes_cell p a) (writes_cell p b)

-- c is due at every tic at which both a and b are.
abbrev pub IsDueWith : Plan → ℕ → ℕ → ℕ → Type 0
IsDueWith p c a b = Covers (due_of p p.jobs_on c) (due_of p p.jobs_on a) (due_of p p.jobs_on b)

-- A depends_on pair orders job a before job b, of larger key, where its depended job is on the thread
-- of a with a key not below that of a, its target is on the thread of b with a key not above that of
-- b, and both are due at every tic at which both a and b are.
pub record Orders (p : Plan) (a b : ℕ) (pair : Depends) : Type 0 where
  pub on_first : thread_of p.jobs (pair.depended).0 ≡ thread_of p.jobs a
  pub on_second : thread_of p.jobs (pair.target).0 ≡ thread_of p.jobs b
  pub not_below : IsTrue (precedes p.jobs (pair.depended).0 a) → ⊥
  pub not_above : IsTrue (precedes p.jobs b (pair.target).0) → ⊥
  pub depended_due : IsDueWith p (pair.depended).0 a b
  pub target_due : IsDueWith p (pair.target).0 a b

-- Job a is ordered before job b where some depends_on pair orders them.
abbrev pub IsOrderedBefore : Plan → ℕ → ℕ → Type 0
IsOrderedBefore p a b = Any (Orders p a b) p.depends

-- ---- the seven conditions, each of one thing

-- Each process type and cycle of the input names a child thread that has a job.
abbrev pub IsNamedRight : Plan → Thread → Type 0
IsNamedRight p thread = IsTrue thread.named → (thread.number ≢ 0) × IsTrue (has_job p.jobs thread)

-- A job of another class than scheduled is on thread 0.
abbrev pub IsOnMain : Plan → ℕ → Type 0
IsOnMain p k = (IsTrue (is_of_class p.jobs class.Scheduled k) → ⊥) → thread_of p.jobs k ≡ 0

-- The depended job of a pair has the smaller key.
abbrev pub IsForward : Plan → Depends → Type 0
IsForward p pair = IsTrue (precedes p.jobs (pair.depended).0 (pair.target).0)

-- the scheduled jobs of a thread may write the cell
abbrev pub may_write_on : Plan → Thread → ℕ → Bool
may_write_on p thread cell = may_write p (filter (is_of_class p.jobs class.Scheduled) (jobs_of p.jobs thread)) cell

-- Scheduled jobs of two threads, one of them must-finish or asynchronous, do not both write the cell.
abbrev pub IsWrittenOnce : Plan → Thread → Thread → ℕ → Type 0
IsWrittenOnce p one other cell =
    one.number ≢ other.number → IsTrue (is_beside one.process || is_beside other.process)
    → IsTrue (may_write_on p one cell && may_write_on p other cell) → ⊥

-- No recorded cell is in the asynchronous reach.
abbrev pub IsRecordable : Plan → Cell → Type 0
IsRecordable p cell = IsReached p cell.0 → ⊥

-- No cell of an event's condition is in the asynchronous reach.
abbrev pub IsDecidable : Plan → Event → Type 0
IsDecidable p event = (cell : ℕ) → IsTrue (is_in event.reads cell) → IsReached p cell → ⊥

-- Two jobs are of class scheduled, on two scheduled threads, the first with the smaller key.
pub record MayRace (p : Plan) (a b : ℕ) : Type 0 where
  pub in_order : IsTrue (precedes p.jobs a b)
  pub first_scheduled : IsTrue (is_of_class p.jobs class.Scheduled a && is_on_scheduled p.jobs p.threads a)
  pub second_scheduled : IsTrue (is_of_class p.jobs class.Scheduled b && is_on_scheduled p.jobs p.threads b)
  pub on_two_threads : thread_of p.jobs a ≢ thread_of p.jobs b

-- Two such jobs that share a tic are independent, or the first is ordered before the second.
abbrev pub IsFine : Plan → ℕ → ℕ → Type 0
IsFine p a b =
    MayRace p a b → (tic : ℕ) → IsShared (due_of p p.jobs_on a) (due_of p p.jobs_on b) tic
    → AreIndependent p a b ⊎ IsOrderedBefore p a b

-- ---- acceptance

-- A plan is accepted where all seven hold.
pub record IsAccepted (p : Plan) : Type 0 where
  pub named : All (IsNamedRight p) p.threads
  pub on_main : (k : ℕ) → k < length p.jobs → IsOnMain p k
  pub forward : All (IsForward p) p.depends
  pub written_once : All (λ one. All (λ other. (cell : ℕ) → IsWrittenOnce p one other cell) p.threads) p.threads
  pub recordable : All (λ (group : Group). All (IsRecordable p) group.cells) p.groups
  pub decidable : All (IsDecidable p) p.events
  pub no_race : (a b : ℕ) → a < length p.jobs → b < length p.jobs → IsFine p a b
