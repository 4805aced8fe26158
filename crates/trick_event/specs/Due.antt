-- What is due when: the reads of a plan, and its events.
use Rattle.std.specs.List.{slice_index_or, list_any}
use Rattle.std.specs.Prelude.{◌≡◌, ◌⊎◌, ℕ, ◌≤◌, ◌<◌, ◌%◌, ◌==◌, Bool, true, false, cond, nat_lt, ◌||◌, List, [], length, None}
use Rattle.trick_cycle.specs.declared.Due.{Due}
use Rattle.trick_model.specs.Laws.{event_is_due}
use Rattle.trick_model.specs.Plan.{Plan, is_on}
use Rattle.trick_model.specs.State.{State}
use Rattle.trick_base.specs.Time.{tic_limit}
use Rattle.trick_model.specs.declared.event.Event.{Event}
use Rattle.trick_model.specs.declared.flags.Flags.{Flags}
use Rattle.trick_model.specs.declared.plan.Plan.{Plan as PlanValue}
use Rattle.trick_model.specs.declared.read_at.ReadAt.{ReadAt}
use Rattle.trick_queue.specs.Calendar.{IsNext}
use Rattle.trick_queue.specs.Tree.{never}

-- ---- when something is due

-- A read is of the tic.
abbrev pub read_is_due : List ReadAt → ℕ → Bool
read_is_due reads tic = list_any (λ (read : ReadAt). read.tic == tic) reads

-- At a tic from `from` on, up to the last one that is run, a read or an active event is due.
pub record IsStirred (p : Plan) (s : State) (from tic : ℕ) : Type 0 where
  pub not_passed : from ≤ tic
  pub in_range : tic ≤ tic_limit
  pub due : read_is_due p.read_ats tic || event_is_due tic 0 p.events s ≡ true

-- ---- the reads that are left

-- a read that is none, for a place past the last one
abbrev pub no_read : ReadAt
no_read = record { tic = 0; actions = [] }

-- the tic of the read of a place
abbrev pub tic_of : List ReadAt → ℕ → ℕ
tic_of reads place = (slice_index_or reads place no_read).tic

-- The tic of a read, but `never` where that is passed.
abbrev pub tic_left : ℕ → ℕ → ℕ
tic_left from tic = cond (nat_lt tic from) never tic

-- The tics that are left of reads, by place.
pub record AreLeft (from : ℕ) (reads : List ReadAt) (tics : List ℕ) : Type 0 where
  pub as_many : length tics ≡ length reads
  pub left : (place : ℕ) → place < length reads → slice_index_or tics place never ≡ tic_left from (tic_of reads place)

-- So it is from a tic on that is not after this one.
abbrev pub AreLeftBy : ℕ → List ReadAt → List ℕ → Type 0
AreLeftBy tic reads tics = (from : ℕ) × (from ≤ tic) × AreLeft from reads tics

-- An agenda: the first tic that is not passed, and the tic of each read that is not passed.
pub record AgendaView : Type 0 where
  pub from : ℕ
  pub reads : List ℕ

-- An agenda of a plan.
abbrev pub IsFor : PlanValue → AgendaView → Type 0
IsFor plan agenda = AreLeft agenda.from plan.reads agenda.reads

-- ---- the next event

-- an event that is none, for a place past the last one
abbrev pub no_event : Event
no_event = record { name = []; cycle = 1; condition = None; actions = [] }

-- the cycle of the event of a place
abbrev pub cycle_of : List Event → ℕ → ℕ
cycle_of events place = (slice_index_or events place no_event).cycle

-- The least due tic that is not below `from`, and `never` where there is none or nothing is active.
abbrev pub IsNextWhere : Bool → Due → (from next : ℕ) → Type 0
IsNextWhere true times from next = IsNext times from next
IsNextWhere false times from next = next ≡ never

-- The event of a place is active, and its cycle divides the tic.
pub record IsEventDue (events : List Event) (on : Flags) (place tic : ℕ) : Type 0 where
  pub active : is_on on place ≡ true
  pub in_step : tic % cycle_of events place ≡ 0

-- Of the events before this place none is due from `from` on before the tic, which is `never` or one
-- at which an event is due.
pub record IsNextEvent (events : List Event) (on : Flags) (from end next : ℕ) : Type 0 where
  pub none_before : (place t : ℕ) → place < end → from ≤ t → t < next → t ≤ tic_limit
      → IsEventDue events on place t → ⊥
  pub due : (next ≡ never)
      ⊎ ((place : ℕ) × (place < length events) × (from ≤ next) × (next ≤ tic_limit) × IsEventDue events on place next)
