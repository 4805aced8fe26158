-- What the turns of a run were given and told.
use Rattle.std.specs.Prelude.{◌≡◌, true, false, Bool, IsOk, IsTrue, List, [], ◌∷◌, ◌++◌, filter, map, None, Some, Result}
use Rattle.trick_model.specs.Journal.{is_of_session}
use Rattle.trick_model.specs.Plan.{Plan}
use Rattle.trick_model.specs.Session.{Message}
use Rattle.trick_model.specs.State.{World}
use Rattle.trick_model.specs.Turn.{turn}
use Rattle.trick_model.specs.declared.entry.Entry.{Entry}
use Rattle.trick_exec_sources.specs.Turns.{Answer, is_succession, no_sessions}
use Rattle.trick_exec_sources.specs.declared.turns.Turns.{Ghosts}

-- ---- answers

-- Of the entries of a turn, those that its source gave: where it decides what is published all of them,
-- else the joins, lines and leaves.
abbrev pub given : Bool → List Entry → List Entry
given true entries = entries
given false entries = filter is_of_session entries

-- The lists that a source gave turns with these entries are a succession.
abbrev pub IsSuccession : Bool → List (List Entry) → Type 0
IsSuccession decides lists = IsTrue (is_succession (map (given decides) lists) no_sessions)

-- the answer that gave a turn its entries
abbrev pub list_answer : Bool → World → List Entry → List Answer
list_answer decides w entries =
    record { turn = w.state.turn; mode = w.state.mode; sessions = w.sessions; list = Some (given decides entries) } ∷ []

-- the answers that gave turns their entries, one after another
abbrev pub answers : Bool → Plan → World → List (List Entry) → List Answer
answers decides p w [] = []
answers decides p w (entries ∷ lists) =
    let next = (turn p w entries).world in list_answer decides w entries ++ answers decides p next lists

-- that no line comes any more
abbrev pub no_more : World → List Answer
no_more w = record { turn = w.state.turn; mode = w.state.mode; sessions = w.sessions; list = None } ∷ []

-- ---- messages

-- A source has not changed but for what it was handed.
pub record IsKept {U M : Type 0} (turns : Ghosts U M) (old new : U) : Type 0 where
  pub owes : turns.owes new ≡ turns.owes old
  pub journal : turns.journal new ≡ turns.journal old
  pub decided : turns.decided new ≡ turns.decided old
  pub sessions : turns.sessions new ≡ turns.sessions old

-- The first of these messages were handed to a source, and all of them at `Ok`; nothing else of it has
-- changed.
pub record Says {U M T E : Type 0} (turns : Ghosts U M) (old new : U) (result : Result T E)
    (messages : List Message) : Type 0 where
  pub sent : List Message
  pub rest : List Message
  pub all : messages ≡ sent ++ rest
  pub whole : IsOk result → rest ≡ []
  pub step : turns.went old [] sent new
  pub kept : IsKept turns old new
