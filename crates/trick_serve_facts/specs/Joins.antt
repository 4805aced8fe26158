-- Which sessions join in a run.
use Rattle.std.specs.Prelude.{◌≡◌, ℕ, zero, suc, ◌+◌, false, List, [], ◌∷◌, length}
use Rattle.trick_model_sessions.specs.Silence.{newcomers}
use Rattle.trick_model.specs.Plan.{Plan}
use Rattle.trick_model.specs.State.{State}
use Rattle.trick_model.specs.declared.entry.Entry.{Entry}
use Rattle.trick_exec_meaning.specs.Answers.{IsSuccession}
use Rattle.trick_serve_source.specs.Calls.{View}
use Rattle.trick_serve_facts.specs.Serves.{IsServedRun, all_entries}

-- so many numbers, from a first one on
abbrev pub numbers_from : ℕ → ℕ → List ℕ
numbers_from first zero = []
numbers_from first (suc count) = first ∷ numbers_from (first + 1) count

-- The sessions that joined in a run that was served are those that have seats: 1, 2 and so on, in order.
abbrev pub JoinsAreInOrder : Type 0
JoinsAreInOrder =
    (p : Plan) (s : State) (lists : List (List Entry)) (old new : View)
    → IsServedRun p s lists old new → IsSuccession false lists
    → newcomers (all_entries lists) ≡ numbers_from 1 (length new.seats)

-- The first turn, if there is one, has the join of client 1 as its first.
abbrev pub JoinsFirst : List (List Entry) → Type 0
JoinsFirst [] = Unit {0}
JoinsFirst (entries ∷ lists) = (others : List ℕ) × (newcomers entries ≡ 1 ∷ others)

-- So it is in a run that was served, unless its door had answered, before its first client, that none had come.
abbrev pub FirstClientsJoin : Type 0
FirstClientsJoin =
    (p : Plan) (s : State) (lists : List (List Entry)) (old new : View)
    → IsServedRun p s lists old new → IsSuccession false lists → new.silent ≡ false → JoinsFirst lists
