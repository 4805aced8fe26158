-- What a turn did to those that a run works with.
use Rattle.std.specs.Prelude.{◌≡◌, ◌⊎◌, ℕ, Bool, true, false, not, List, [], ◌++◌, filter, Result}
use Rattle.trick_base.specs.Files.{Write}
use Rattle.trick_model.specs.Files.{note, turn_writes}
use Rattle.trick_model.specs.Journal.{is_of_session}
use Rattle.trick_model.specs.Plan.{Plan}
use Rattle.trick_model.specs.State.{World}
use Rattle.trick_model.specs.Turn.{Turned as TurnedOf, turn}
use Rattle.trick_model.specs.declared.entry.Entry.{Entry}
use Rattle.trick_outside.specs.Calls.{Call}
use Rattle.trick_outside.specs.Does.{Does}
use Rattle.trick_outside.specs.declared.stop.Stop.{Stop}
use Rattle.trick_post_work.specs.Polls.{Poll}
use Rattle.trick_exec_meaning.specs.Answers.{Says}
use Rattle.trick_exec_meaning.specs.Hosts.{Hosts, Place}
use Rattle.trick_exec_tic.specs.Steps.{steps_of}

-- the lines that a turn adds to the journal
abbrev pub line_notes : ℕ → TurnedOf → List Write
line_notes number t = note number (filter is_of_session t.noted)

-- what a turn adds to the journal: its lines, and its publications that count
abbrev pub notes : ℕ → TurnedOf → List Write
notes number t = line_notes number t ++ note number (filter (λ entry. not (is_of_session entry)) t.noted)

-- Posts were asked for rounds by polls that are so, or not at all where another decides.
abbrev pub Asks : {Q : Type 0} → Bool → (Q → List Poll → Q → Type 0) → (List Poll → Type 0) → Q → Q → Type 0
Asks true asked P old new = asked old [] new
Asks false asked P old new = (polls : List Poll) × asked old polls new × P polls

-- A turn of a world with these entries did this: its writes, of which a part was done where it stopped;
-- its messages, of which the first were handed over then. No message is handed over before the entries
-- are noted.
pub record Turned {S U M Q T : Type 0} (h : Hosts S U M Q) (p : Plan) (w : World) (entries : List Entry)
    (old new : Place S U Q) (result : Result T Stop) : Type 0 where
  pub does : Does h.shelf old.shelf new.shelf result (steps_of (turn_writes w.state.turn (turn p w entries)))
  pub says : Says h.turns old.turns new.turns result (turn p w entries).said
  pub prompt : (says.sent ≡ [])
      ⊎ ((later : List Call) × (does.calls ≡ steps_of (notes w.state.turn (turn p w entries)) ++ later))
