-- What a valid plan keeps.
use Rattle.std.proofs.Props.{props}
use Rattle.std.specs.List.{list_any}
use Rattle.std.specs.Prelude.{◌≡◌, ℕ, ◌<◌, ◌≤◌, ◌^◌, nat_lt, not, ℤ, Bool, true, ◌&&◌, ◌||◌, ◌==◌, IsTrue, All, IfSome, List, [], ◌∷◌, length, map}
use Rattle.std.specs.Str.{bytes_eq}
use Rattle.trick_lang.specs.Effect.{scalars_of}
use Rattle.trick_lang.specs.Names.{job_name}
use Rattle.trick_lang.specs.Wrap.{IsInRange}
use Rattle.trick_lang.specs.declared.cells.Cell.{Cell}
use Rattle.trick_lang.specs.declared.class.Class.TheVariants as class
use Rattle.trick_lang.specs.declared.job.Job.{Job}
use Rattle.trick_lang.specs.declared.job.JobId.{JobId}
use Rattle.trick_lang.specs.declared.program.Program.{Program}
use Rattle.trick_lang.specs.declared.variable.Variable.{Variable}
use Rattle.trick_model.specs.Names.{Names}
use Rattle.trick_model.specs.Order.{classes, is_of_class, jobs_in}
use Rattle.trick_model.specs.Plan.{has_job, is_on_scheduled}
use Rattle.trick_base.specs.Time.{tic_limit}
use Rattle.trick_model.specs.declared.deed.Deed.{Deed}
use Rattle.trick_model.specs.declared.deed.Deed.TheVariants as deed
use Rattle.trick_model.specs.declared.depends.Depends.{Depends}
use Rattle.trick_model.specs.declared.event.Event.{Event}
use Rattle.trick_model.specs.declared.group.Group.{Group}
use Rattle.trick_model.specs.declared.thread.Process.TheVariants as process
use Rattle.trick_model.specs.declared.thread.Thread.{Thread}

-- ---- lists

-- each number is larger than the one before it
abbrev pub rises : List ℕ → Bool
rises [] = true
rises (n ∷ []) = true
rises (n ∷ m ∷ ns) = nat_lt n m && rises (m ∷ ns)

-- no name stands twice
abbrev pub all_differ : List (List ℕ) → Bool
all_differ [] = true
all_differ (name ∷ names) = not (list_any (bytes_eq name) names) && all_differ names

-- ---- names

-- the full names of cells
abbrev pub cell_names : List Variable → List (List ℕ)
cell_names cells = map (λ (v : Variable). v.name) cells

-- the names of groups
abbrev pub group_names : List Group → List (List ℕ)
group_names groups = map (λ (g : Group). g.name) groups

-- the names of events
abbrev pub event_names : List Event → List (List ℕ)
event_names events = map (λ (e : Event). e.name) events

-- the names that actions of a plan can have
abbrev pub names_in : Program → List Group → List Event → Names
names_in p groups events = record {
  cells = cell_names p.cells;
  scalars = scalars_of p.cells;
  job_names = map (job_name p.objects p.methods) p.jobs;
  jobs = p.jobs;
  groups = group_names groups;
  events = event_names events;
}

-- ---- threads

-- the numbers of threads
abbrev pub thread_numbers : List Thread → List ℕ
thread_numbers threads = map (λ (thread : Thread). thread.number) threads

-- There is thread 0, each child thread with a job, and each thread that the input names.
abbrev pub is_there : List Job → Thread → Bool
is_there jobs thread = (thread.number == 0) || (thread.named || has_job jobs thread)

-- Thread 0 is scheduled unless the input names it.
abbrev pub IsMainRight : Thread → Type 0
IsMainRight thread = thread.number ≡ 0 → (IsTrue thread.named → ⊥) → thread.process ≡ process.Scheduled

-- There is one queue per class, by rank: its jobs in key order.
abbrev pub queues_of : List Job → List (List ℕ)
queues_of jobs = map (jobs_in jobs) classes

-- the numbers of jobs
abbrev pub ids : List JobId → List ℕ
ids jobs = map (λ (job : JobId). job.0) jobs

-- ---- times

-- a cycle from 1 tic to the last time
pub record IsCycle (cycle : ℕ) : Type 0 where
  pub some : 1 ≤ cycle
  pub in_range : cycle ≤ tic_limit

-- the frame has from 1 to 10^9 tics
pub record IsFrame (frame : ℕ) : Type 0 where
  pub some : 1 ≤ frame
  pub in_range : frame ≤ 10 ^ 9

-- ---- what is named

-- a depends_on pair names two jobs of class scheduled on scheduled threads
abbrev pub can_depend : List Job → List Thread → JobId → Bool
can_depend jobs threads job =
    nat_lt job.0 (length jobs) && (is_of_class jobs class.Scheduled job.0 && is_on_scheduled jobs threads job.0)

-- both jobs of a pair can depend on each other
abbrev pub IsPair : List Job → List Thread → Depends → Type 0
IsPair jobs threads pair = IsTrue (can_depend jobs threads pair.target && can_depend jobs threads pair.depended)

-- the cell is one of so many
abbrev pub IsCell : ℕ → Cell → Type 0
IsCell cells cell = cell.0 < cells

-- an assignment gives a cell a number of its range
pub record IsAssignment (cells : List Variable) (assign : Cell × ℤ) : Type 0 where
  pub there : IsCell (length cells) assign.0
  pub in_range : IsInRange (scalars_of cells) (assign.0).0 assign.1

-- What a deed is about is among these names: its cell, whose range has the number, its job, group or
-- event; and its tic is one of a run.
abbrev pub IsDeedAmong : Names → Deed → Type 0
IsDeedAmong names (deed.SetCell cell number) = (cell.0 < length names.cells) × IsInRange names.scalars cell.0 number
IsDeedAmong names (deed.SetJob job on) = job.0 < length names.jobs
IsDeedAmong names deed.Freeze = Unit {0}
IsDeedAmong names (deed.Stop at) = IfSome at (λ tic. tic ≤ tic_limit)
IsDeedAmong names deed.Checkpoint = Unit {0}
IsDeedAmong names (deed.SetGroup group on) = group < length names.groups
IsDeedAmong names (deed.SetEvent event on) = event < length names.events

-- that has one proof at most, so that a plan can keep it
pub among-prop : (names : Names) (deed : Deed) → IsProp (IsDeedAmong names deed)
among-prop names (deed.SetCell cell number) = Prim.hlevel props
among-prop names (deed.SetJob job on) = Prim.hlevel props
among-prop names deed.Freeze = Prim.hlevel props
among-prop names (deed.Stop at) = Prim.hlevel props
among-prop names deed.Checkpoint = Prim.hlevel props
among-prop names (deed.SetGroup group on) = Prim.hlevel props
among-prop names (deed.SetEvent event on) = Prim.hlevel props

-- all deeds of numbered lists are about these names
abbrev pub AreDeedsAmong : Names → List (ℕ × List Deed) → Type 0
AreDeedsAmong names lists = All (λ (numbered : ℕ × List Deed). All (IsDeedAmong names) numbered.1) lists

-- the lists of an event have rising numbers, from 0 to 15
pub record AreNumbered (event : Event) : Type 0 where
  pub rising : IsTrue (rises (map (λ (numbered : ℕ × List Deed). numbered.0) event.actions))
  pub in_range : All (λ (numbered : ℕ × List Deed). numbered.0 ≤ 15) event.actions
