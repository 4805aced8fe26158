-- What a refusal of a plan says: the conditions before its own hold, and it names the first case in which
-- its own does not.
use Rattle.std.specs.List.{slice_get, slice_index_or}
use Rattle.std.specs.Prelude.{◌≡◌, ℕ, ◌<◌, IsTrue, List, All, Some, length}
use Rattle.trick_cycle.specs.Least.{IsLeast}
use Rattle.trick_cycle.specs.Shared.{IsShared}
use Rattle.trick_model.specs.Acceptance.{IsDecidable, IsFine, IsForward, IsNamedRight, IsOnMain, IsRecordable, IsWrittenOnce}
use Rattle.trick_model.specs.Order.{precedes}
use Rattle.trick_model.specs.Plan.{Plan, Event}
use Rattle.trick_model.specs.Time.{due_of}
use Rattle.trick_model.specs.declared.group.Group.{Group}
use Rattle.trick_model.specs.declared.thread.Thread.{Thread}
use Rattle.trick_race.specs.declared.fault.PlanFault.{PlanFault}
use Rattle.trick_race.specs.declared.fault.PlanFault.TheVariants.{NoThread, ClassOnChild, Backwards, SharedWriter, AsyncRecorded, AsyncEvent, Race, OutOfMemory}

-- ---- the first of its kind

-- The item at place k is x, which lacks the property, and each item before it has it.
pub record IsFirstWithout {A : Type 0} (P : A → Type 0) (items : List A) (k : ℕ) (x : A) : Type 0 where
  pub there : slice_get items k ≡ Some x
  pub lacks : P x → ⊥
  pub before : (i : ℕ) (d : A) → i < k → P (slice_index_or items i d)

-- x is the first item that lacks the property.
abbrev pub IsFirstItemWithout : {A : Type 0} → (A → Type 0) → List A → A → Type 0
IsFirstItemWithout P items x = (k : ℕ) × IsFirstWithout P items k x

-- ---- the conditions of acceptance, in the order in which they are asked

abbrev pub AreNamedRight : Plan → Type 0
AreNamedRight p = All (IsNamedRight p) p.threads

abbrev pub AreOnMain : Plan → Type 0
AreOnMain p = (k : ℕ) → k < length p.jobs → IsOnMain p k

abbrev pub AreForward : Plan → Type 0
AreForward p = All (IsForward p) p.depends

-- The jobs of this thread and of any other do not both write the cell.
abbrev pub IsOnlyWriter : Plan → ℕ → Thread → Type 0
IsOnlyWriter p cell thread = All (λ other. IsWrittenOnce p thread other cell) p.threads

abbrev pub HasOneWriter : Plan → ℕ → Type 0
HasOneWriter p cell = All (IsOnlyWriter p cell) p.threads

abbrev pub HaveOneWriter : Plan → Type 0
HaveOneWriter p = (cell : ℕ) → HasOneWriter p cell

-- All cells of the group may be recorded.
abbrev pub IsGroupRecordable : Plan → Group → Type 0
IsGroupRecordable p group = All (IsRecordable p) group.cells

abbrev pub AreRecordable : Plan → Type 0
AreRecordable p = All (IsGroupRecordable p) p.groups

abbrev pub AreDecidable : Plan → Type 0
AreDecidable p = All (IsDecidable p) p.events

abbrev pub HaveNoRace : Plan → Type 0
HaveNoRace p = (a b : ℕ) → a < length p.jobs → b < length p.jobs → IsFine p a b

-- ---- refusals

-- The conditions that are asked before that of the refusal hold.
abbrev pub HoldsBefore : Plan → PlanFault → Type 0
HoldsBefore p (NoThread thread) = Unit {0}
HoldsBefore p (ClassOnChild job) = AreNamedRight p
HoldsBefore p (Backwards target depended) = AreNamedRight p × AreOnMain p
HoldsBefore p (SharedWriter cell thread other) = AreNamedRight p × AreOnMain p × AreForward p
HoldsBefore p (AsyncRecorded group cell) = AreNamedRight p × AreOnMain p × AreForward p × HaveOneWriter p
HoldsBefore p (AsyncEvent event) = AreNamedRight p × AreOnMain p × AreForward p × HaveOneWriter p × AreRecordable p
HoldsBefore p (Race job other tic) =
    AreNamedRight p × AreOnMain p × AreForward p × HaveOneWriter p × AreRecordable p × AreDecidable p
HoldsBefore p OutOfMemory = Unit {0}

-- The first cell that two threads may write which must not, and the first two of them there. Threads
-- stand by rising number.
pub record IsSharedWriter (p : Plan) (cell : ℕ) (thread other : Thread) : Type 0 where
  pub cells_before : (before : ℕ) → before < cell → HasOneWriter p before
  pub first_thread : IsFirstItemWithout (IsOnlyWriter p cell) p.threads thread
  pub first_other : IsFirstItemWithout (λ other. IsWrittenOnce p thread other cell) p.threads other
  pub in_order : thread.number < other.number

-- The first two jobs by keys that race, and the first tic that they share.
pub record IsRace (p : Plan) (job other tic : ℕ) : Type 0 where
  pub job_there : job < length p.jobs
  pub other_there : other < length p.jobs
  pub races : IsFine p job other → ⊥
  pub jobs_before : (a b : ℕ) → a < length p.jobs → b < length p.jobs → IsTrue (precedes p.jobs a job) → IsFine p a b
  pub others_before : (b : ℕ) → b < length p.jobs → IsTrue (precedes p.jobs b other) → IsFine p job b
  pub first_tic : IsLeast (IsShared (due_of p p.jobs_on job) (due_of p p.jobs_on other)) tic

-- The refusal names the first case in which its condition does not hold.
abbrev pub NamesFirst : Plan → PlanFault → Type 0
NamesFirst p (NoThread number) =
    (thread : Thread) × IsFirstItemWithout (IsNamedRight p) p.threads thread × (thread.number ≡ number)
NamesFirst p (ClassOnChild job) =
    (job.0 < length p.jobs) × (IsOnMain p job.0 → ⊥) × ((k : ℕ) → k < job.0 → IsOnMain p k)
NamesFirst p (Backwards target depended) =
    IsFirstItemWithout (IsForward p) p.depends (record { target = target; depended = depended })
NamesFirst p (SharedWriter cell thread other) =
    (one : Thread) × (two : Thread) × IsSharedWriter p cell.0 one two × (one.number ≡ thread) × (two.number ≡ other)
NamesFirst p (AsyncRecorded number cell) =
    (group : Group) × IsFirstWithout (IsGroupRecordable p) p.groups number group
    × IsFirstItemWithout (IsRecordable p) group.cells cell
NamesFirst p (AsyncEvent number) = (event : Event) × IsFirstWithout (IsDecidable p) p.events number event
NamesFirst p (Race job other tic) = IsRace p job.0 other.0 tic
NamesFirst p OutOfMemory = Unit {0}
