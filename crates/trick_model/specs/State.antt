-- The state of a run.
use Rattle.std.specs.List.{slice_index_or}
use Rattle.std.specs.Prelude.{ℕ, ℤ, pos, false, List, [], Option}
use Rattle.trick_model.specs.FaultList.{FaultList}
use Rattle.trick_model.specs.declared.flags.Flags.{Flags}
use Rattle.trick_model.specs.declared.mode.Mode.{Mode}
use Rattle.trick_model.specs.declared.session.Session.{Session}
use Rattle.trick_model.specs.declared.state.State.{State as StateValue}
use Rattle.trick_model.specs.declared.taken.Taken.{Taken}

-- All that a run goes on from, and what a checkpoint keeps.
pub record State : Type 0 where
  -- the turns that are done
  pub turn : ℕ
  -- the next tic to run
  pub tic : ℕ
  -- neither this tic nor a later one is run
  pub limit : ℕ
  pub mode : Mode
  -- the number of each cell
  pub memory : List ℤ
  pub jobs : Flags
  pub events : Flags
  pub groups : Flags
  -- by group: its last row, where it records on change and has one
  pub last : List (Option (List ℤ))
  -- for each must-finish and asynchronous thread, in thread order
  pub taken : List Taken
  pub faults : FaultList

-- The state that a value of the code holds; `numbers` are those of its memory.
abbrev pub seen : {M : Type 0} → (M → List ℤ) → StateValue M → State
seen numbers state = record {
  turn = state.turn;
  tic = state.tic;
  limit = state.limit;
  mode = state.mode;
  memory = numbers state.memory;
  jobs = state.jobs;
  events = state.events;
  groups = state.groups;
  last = state.last;
  taken = state.taken;
  faults = state.faults;
}

-- A world is a state with its live sessions, by rising number.
pub record World : Type 0 where
  pub state : State
  pub sessions : List Session

-- the number of a cell; past the last cell it is 0
abbrev pub number_at : List ℤ → ℕ → ℤ
number_at memory cell = slice_index_or memory cell (pos 0)

-- a record of which nothing is held
abbrev pub nothing_taken : Taken
nothing_taken = record { held = false; cells = []; on = record { on = [] } }

-- the record of a thread, by its place among those beside the tics
abbrev pub taken_at : State → ℕ → Taken
taken_at s place = slice_index_or s.taken place nothing_taken
