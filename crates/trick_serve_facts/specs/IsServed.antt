-- What a run with clients came to.
use Rattle.std.specs.Prelude.{◌≡◌, ◌≢◌, ℕ, ◌+◌, ◌≤◌, false, IsTrue, List, [], ◌∷◌, Some, filter, length}
use Rattle.trick_model_sessions.specs.Silence.{newcomers}
use Rattle.trick_model.specs.Journal.{is_of_session}
use Rattle.trick_model.specs.Plan.{Plan}
use Rattle.trick_model.specs.Run.{opened}
use Rattle.trick_model.specs.State.{State, World}
use Rattle.trick_model.specs.Turn.{is_frozen, turn}
use Rattle.trick_model.specs.declared.entry.Entry.{Entry}
use Rattle.trick_exec_meaning.specs.Answers.{IsSuccession}
use Rattle.trick_serve_source.specs.Calls.{View}
use Rattle.trick_serve_hearing.specs.Sides.{Queues, side}
use Rattle.trick_serve_hearing.specs.declared.seat.Seat.{Seat}
use Rattle.trick_serve_facts.specs.Clients.{EndSays, HasServed, IsAbsent, LinkTale}
use Rattle.trick_serve_facts.specs.Joins.{numbers_from}
use Rattle.trick_serve_facts.specs.Serves.{IsServedRun, all_entries}

-- In each turn that begins in Freeze somebody joins, says a line or leaves.
abbrev pub FreezeHasEntries : Plan → World → List (List Entry) → Type 0
FreezeHasEntries p w [] = Unit {0}
FreezeHasEntries p w (entries ∷ lists) =
    let next = (turn p w entries).world in
    (IsTrue (is_frozen w.state.mode) → filter is_of_session entries ≢ []) × FreezeHasEntries p next lists

-- The clients joined under the numbers 1, 2 and so on, in order; each was served; no other session has an entry or a
-- message; and no turn began in Freeze without an entry of a client.
pub record IsServed (p : Plan) (s : State) (lists : List (List Entry)) (seats : List Seat) : Type 0 where
  pub joins : newcomers (all_entries lists) ≡ numbers_from 1 (length seats)
  pub clients : (k : ℕ) (queues : Queues) (tale : LinkTale) → (side seats k).queues ≡ Some queues → EndSays tale (side seats k)
      → HasServed p s lists (k + 1) queues tale
  pub others : (k : ℕ) → length seats ≤ k → IsAbsent p s lists (k + 1)
  pub frozen : FreezeHasEntries p (opened s) lists

-- So is each run whose turns were served, and whose lists keep the rules of entries.
abbrev pub RunsAreServed : Type 0
RunsAreServed =
    (p : Plan) (s : State) (lists : List (List Entry)) (old new : View)
    → IsServedRun p s lists old new → IsSuccession false lists → IsServed p s lists new.seats
