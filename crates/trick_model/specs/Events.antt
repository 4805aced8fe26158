-- Deeds, reads and events; entering and leaving Freeze.
use Rattle.std.specs.Prelude.{ℕ, suc, ◌+◌, ◌%◌, ◌==◌, max, ℤ, Bool, true, false, ◌&&◌, List, [], ◌∷◌, map, slice_set, Option, Some, None}
use Rattle.trick_lang.specs.Numbers.{is_true}
use Rattle.trick_lang.specs.declared.class.Class.TheVariants as class
use Rattle.trick_model.specs.Names.{Names}
use Rattle.trick_model.specs.Plan.{Plan, Event, is_on}
use Rattle.trick_model.specs.Running.{run_class}
use Rattle.trick_model.specs.State.{State}
use Rattle.trick_model.specs.declared.deed.Deed.{Deed}
use Rattle.trick_model.specs.declared.deed.Deed.TheVariants.{SetCell, SetJob, Freeze, Stop, Checkpoint, SetGroup, SetEvent}
use Rattle.trick_model.specs.declared.flags.Flags.{Flags}
use Rattle.trick_model.specs.declared.group.Group.{Group}
use Rattle.trick_model.specs.declared.mode.Mode.TheVariants as mode
use Rattle.trick_model.specs.declared.read_at.ReadAt.{ReadAt}

-- ---- Freeze

-- Freeze is entered from Run alone: the mode becomes Freeze, and then the freeze jobs run.
abbrev pub enter_freeze : Plan → State → State
enter_freeze p s = elim (s.mode) [
  | mode.Run ↦ run_class p class.Freeze (record s { mode = mode.Freeze })
  | mode.Freeze ↦ s
  | mode.Shutdown ↦ s
]

-- In Freeze a resume sets the mode to Run, and then the unfreeze jobs run.
abbrev pub leave_freeze : Plan → State → State
leave_freeze p s = elim (s.mode) [
  | mode.Run ↦ s
  | mode.Freeze ↦ run_class p class.Unfreeze (record s { mode = mode.Run })
  | mode.Shutdown ↦ s
]

-- ---- deeds

-- A deed is done in a tic, by a read or an event, or between two tics, by a client.
pub data Moment : Type 0 where
  InTic : (tic : ℕ) → Moment
  Between : Moment

-- a state in a turn, and what was asked for in it
pub record Asking : Type 0 where
  pub state : State
  pub freeze : Bool
  pub checkpoint : Bool

-- the names that an action can have
abbrev pub names_of : Plan → Names
names_of p = record {
  cells = p.names;
  scalars = p.scalars;
  job_names = p.job_names;
  jobs = p.jobs;
  groups = map (λ (g : Group). g.name) p.groups;
  events = map (λ (e : Event). e.name) p.events;
}

-- one flag set
abbrev pub with_flag : Flags → ℕ → Bool → Flags
with_flag flags k on = record { on = slice_set flags.on k on }

-- A stop in a tic t makes the limit t + 1, and with a time the larger of it and t, plus 1. From a
-- client the limit becomes `tic`, or the larger of the time plus 1 and `tic`.
abbrev pub stopped : Moment → Option ℕ → State → ℕ
stopped (InTic tic) None s = tic + 1
stopped (InTic tic) (Some at) s = max at tic + 1
stopped Between None s = s.tic
stopped Between (Some at) s = max (at + 1) s.tic

-- A freeze and a checkpoint are remembered; all else is done at once.
abbrev pub do_deed : Moment → Deed → Asking → Asking
do_deed moment (SetCell cell number) a =
    let s = a.state in record a { state = record s { memory = slice_set s.memory cell.0 number } }
do_deed moment (SetJob job on) a =
    let s = a.state in record a { state = record s { jobs = with_flag s.jobs job.0 on } }
do_deed moment Freeze a = record a { freeze = true }
do_deed moment (Stop at) a =
    let s = a.state in record a { state = record s { limit = stopped moment at s } }
do_deed moment Checkpoint a = record a { checkpoint = true }
do_deed moment (SetGroup group on) a =
    let s = a.state in record a { state = record s { groups = with_flag s.groups group on } }
do_deed moment (SetEvent event on) a =
    let s = a.state in record a { state = record s { events = with_flag s.events event on } }

-- deeds one after another, in a tic
abbrev pub act_all : ℕ → List Deed → Asking → Asking
act_all tic [] a = a
act_all tic (deed ∷ deeds) a = act_all tic deeds (do_deed (InTic tic) deed a)

-- ---- reads and events

-- The reads of a tic are done in the order of their lines.
abbrev pub reads_done : ℕ → List ReadAt → Asking → Asking
reads_done tic [] a = a
reads_done tic (read ∷ reads) a =
    reads_done tic reads (elim (read.tic == tic) [ true ↦ act_all tic read.actions a | false ↦ a ])

-- the deeds of an event, by rising number
abbrev pub event_acts : ℕ → List (ℕ × List Deed) → Asking → Asking
event_acts tic [] a = a
event_acts tic (numbered ∷ others) a = event_acts tic others (act_all tic numbered.1 a)

-- Without a condition an event never fires.
abbrev pub holds : Option (List ℤ → ℤ) → List ℤ → Bool
holds None memory = false
holds (Some condition) memory = is_true (condition memory)

-- An active event fires where its cycle divides the tic and its condition is not 0.
abbrev pub fires : ℕ → ℕ → Event → State → Bool
fires tic k event s = is_on s.events k && ((tic % event.cycle == 0) && holds event.condition s.memory)

-- Its deeds are done, and after them it is inactive.
abbrev pub fired : ℕ → ℕ → Event → Asking → Asking
fired tic k event a =
    let b = event_acts tic event.actions a in
    let s = b.state in record b { state = record s { events = with_flag s.events k false } }

-- The events of a tic, in the order in which the input added them; k is the number of the first.
abbrev pub events_done : ℕ → ℕ → List Event → Asking → Asking
events_done tic k [] a = a
events_done tic k (event ∷ events) a =
    events_done tic (suc k) events (elim (fires tic k event a.state) [ true ↦ fired tic k event a | false ↦ a ])

-- the reads of a tic, and then its events
abbrev pub fire : Plan → ℕ → Asking → Asking
fire p tic a = events_done tic 0 p.events (reads_done tic p.read_ats a)
