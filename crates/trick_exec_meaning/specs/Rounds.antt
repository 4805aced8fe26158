-- Which rounds of asynchronous threads a run publishes where its source leaves the choice to it.
use Rattle.std.specs.List.{list_any, slice_index_or}
use Rattle.std.specs.Prelude.{◌≡◌, ◌+◌, ◌<◌, ◌≤◌, min, ◌==◌, ◌&&◌, not, ℕ, Bool, true, false, List, [], ◌∷◌, ◌++◌, filter, length, map}
use Rattle.trick_model.specs.Beside.{has_round}
use Rattle.trick_model.specs.Journal.{is_of_session}
use Rattle.trick_model.specs.Plan.{Plan, threads_beside}
use Rattle.trick_model.specs.Run.{after_turns}
use Rattle.trick_model.specs.State.{State, World}
use Rattle.trick_model.specs.Turn.{begun, heard, runs}
use Rattle.trick_model.specs.declared.entry.Entry.{Entry}
use Rattle.trick_model.specs.declared.entry.Entry.TheVariants.{Join, Said, Leave, Publish}
use Rattle.trick_model.specs.declared.thread.Thread.{Thread}
use Rattle.trick_post_work.specs.Polls.{Poll}
use Rattle.trick_post_work.specs.declared.posts.Posted.TheVariants.{Ready, NotYet}

-- ---- how long rounds wait

-- At so many run frames of a run a round may stay unpublished; at the next one it is published unasked.
abbrev pub patience : ℕ
patience = 1000

-- the publications of a turn
abbrev pub publications : List Entry → List Entry
publications entries = filter (λ entry. not (is_of_session entry)) entries

-- an entry publishes the round of a thread of this number
abbrev pub is_publication_of : ℕ → Entry → Bool
is_publication_of number (Join session) = false
is_publication_of number (Said session line) = false
is_publication_of number (Leave session cause) = false
is_publication_of number (Publish thread) = thread == number

-- these entries publish it
abbrev pub is_published : ℕ → List Entry → Bool
is_published number entries = list_any (is_publication_of number) entries

-- at how many run frames the round of a place has stayed unpublished
abbrev pub wait_at : List ℕ → ℕ → ℕ
wait_at waits place = slice_index_or waits place 0

-- the same after a run frame, for the thread of a place
abbrev pub waited_at : State → List ℕ → List Entry → ℕ → Thread → ℕ
waited_at s waits entries place thread =
    elim (has_round s place thread && not (is_published thread.number entries)) [
      | true ↦ min (wait_at waits place + 1) patience
      | false ↦ 0
    ]

-- the same for each of these threads; `place` is that of the first
abbrev pub waited_from : State → List ℕ → List Entry → ℕ → List Thread → List ℕ
waited_from s waits entries place [] = []
waited_from s waits entries place (thread ∷ threads) =
    waited_at s waits entries place thread ∷ waited_from s waits entries (place + 1) threads

-- what the waits become in a turn, whose state is that after its lines were heard
abbrev pub waited : Plan → State → List ℕ → List Entry → List ℕ
waited p s waits entries = elim (runs s) [
  | true ↦ waited_from s waits entries 0 (threads_beside p)
  | false ↦ waits
]

-- before its first turn a run has seen no round wait
abbrev pub no_waits : Plan → List ℕ
no_waits p = map (λ (thread : Thread). 0) (threads_beside p)

-- ---- one turn

-- Of the first threads beside the tics, these publications were chosen in a run frame, by these polls:
-- of each that has a round in flight it is asked whether it is ready, and it is published where it is.
-- One that has waited long enough is published unasked.
pub data Chooses (s : State) (waits : List ℕ) : List Thread → List Entry → List Poll → Type 0 where
  none : Chooses s waits [] [] []
  idle : (threads : List Thread) (thread : Thread) (entries : List Entry) (polls : List Poll)
      → has_round s (length threads) thread ≡ false → Chooses s waits threads entries polls
      → Chooses s waits (threads ++ thread ∷ []) entries polls
  ready : (threads : List Thread) (thread : Thread) (entries : List Entry) (polls : List Poll)
      → has_round s (length threads) thread ≡ true → wait_at waits (length threads) < patience
      → Chooses s waits threads entries polls
      → Chooses s waits (threads ++ thread ∷ []) (entries ++ Publish thread.number ∷ [])
      (polls ++ record { thread = thread.number; turn = s.turn; answer = Ready } ∷ [])
  not_yet : (threads : List Thread) (thread : Thread) (entries : List Entry) (polls : List Poll)
      → has_round s (length threads) thread ≡ true → wait_at waits (length threads) < patience
      → Chooses s waits threads entries polls
      → Chooses s waits (threads ++ thread ∷ []) entries
      (polls ++ record { thread = thread.number; turn = s.turn; answer = NotYet } ∷ [])
  unasked : (threads : List Thread) (thread : Thread) (entries : List Entry) (polls : List Poll)
      → has_round s (length threads) thread ≡ true → patience ≤ wait_at waits (length threads)
      → Chooses s waits threads entries polls
      → Chooses s waits (threads ++ thread ∷ []) (entries ++ Publish thread.number ∷ []) polls

-- These publications of a turn were chosen by these polls; in a freeze frame there are neither. The state
-- is that after its lines were heard.
abbrev pub IsChosen : Plan → State → List ℕ → List Entry → List Poll → Type 0
IsChosen p s waits published polls = elim (runs s) [
  | true ↦ Chooses s waits (threads_beside p) published polls
  | false ↦ (published ≡ []) × (polls ≡ [])
]

-- ---- turns, one after another

-- the state of a world after the lines of a turn were heard
abbrev pub heard_state : Plan → World → List Entry → State
heard_state p w entries = (heard p entries (begun w)).asking.state

-- The publications of turns from a world on were chosen by these polls; then rounds have waited so long.
pub data AreChosen (p : Plan) (w : World) : List (List Entry) → List Poll → List ℕ → Type 0 where
  no_turn : AreChosen p w [] [] (no_waits p)
  one_more : (lists : List (List Entry)) (polls more : List Poll) (waits : List ℕ) (entries : List Entry)
      → AreChosen p w lists polls waits
      → IsChosen p (heard_state p (after_turns p w lists) entries) waits (publications entries) more
      → AreChosen p w (lists ++ entries ∷ []) (polls ++ more)
      (waited p (heard_state p (after_turns p w lists) entries) waits (publications entries))
