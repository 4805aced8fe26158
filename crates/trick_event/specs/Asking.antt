-- A state in a turn, and the moment of an action, as values of the code hold them.
use Rattle.std.specs.Prelude.{ℕ, ◌≤◌, ℤ, List}
use Rattle.trick_event.specs.declared.asked.Asked.{Asked}
use Rattle.trick_event.specs.declared.moment.Moment.{Moment as MomentValue}
use Rattle.trick_event.specs.declared.moment.Moment.TheVariants as moment
use Rattle.trick_model.specs.Events.{Asking, Moment, InTic, Between}
use Rattle.trick_model.specs.State.{seen}
use Rattle.trick_base.specs.Time.{tic_limit}
use Rattle.trick_model.specs.declared.state.State.{State as StateValue}

-- A state with what was asked for in its turn; `numbers` are those of its memory.
abbrev pub asking : {M : Type 0} → (M → List ℤ) → StateValue M → Asked → Asking
asking numbers state asked = record {
  state = seen numbers state;
  freeze = asked.freeze;
  checkpoint = asked.checkpoint;
}

-- the moment that a value of the code holds
abbrev pub moment_of : MomentValue → Moment
moment_of (moment.Tic tic) = InTic tic
moment_of moment.Between = Between

-- The tic of an action is a time.
abbrev pub IsTimely : MomentValue → Type 0
IsTimely (moment.Tic tic) = tic ≤ tic_limit
IsTimely moment.Between = Unit {0}
