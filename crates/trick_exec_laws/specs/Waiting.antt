-- How long the rounds of asynchronous threads stay unpublished.
use Rattle.std.specs.List.{slice_index_or}
use Rattle.std.specs.Prelude.{◌≡◌, ◌<◌, ◌≤◌, ℕ, suc, Bool, cond, ◌&&◌, not, true, List, [], ◌∷◌, ◌++◌, length}
use Rattle.trick_model.specs.Beside.{has_round}
use Rattle.trick_model.specs.Plan.{Plan, threads_beside}
use Rattle.trick_model.specs.Run.{after_turns}
use Rattle.trick_model.specs.State.{World}
use Rattle.trick_model.specs.Turn.{runs, turn}
use Rattle.trick_model.specs.declared.entry.Entry.{Entry}
use Rattle.trick_model.specs.declared.thread.Thread.{Thread}
use Rattle.trick_post_work.specs.Polls.{Poll}
use Rattle.trick_exec_meaning.specs.Rounds.{AreChosen, heard_state, is_published, patience, publications}

-- whether a turn of a world with these entries is a run frame
abbrev pub is_run_frame : Plan → World → List Entry → Bool
is_run_frame p w entries = runs (heard_state p w entries)

-- how many of these turns are run frames
abbrev pub run_frames : Plan → World → List (List Entry) → ℕ
run_frames p w [] = 0
run_frames p w (entries ∷ lists) =
    let more = run_frames p (turn p w entries).world lists in cond (is_run_frame p w entries) (suc more) more

-- the round of the thread of a place is in flight in a turn, and no entry publishes it
abbrev pub is_left : Plan → World → List Entry → ℕ → Thread → Bool
is_left p w entries place thread =
    has_round (heard_state p w entries) place thread && not (is_published thread.number (publications entries))

-- At each run frame of these turns the round of the thread of a place stays unpublished.
abbrev pub StaysUnpublished : Plan → World → List (List Entry) → ℕ → Thread → Type 0
StaysUnpublished p w [] place thread = Unit {0}
StaysUnpublished p w (entries ∷ lists) place thread =
    (is_run_frame p w entries ≡ true → is_left p w entries place thread ≡ true)
    × StaysUnpublished p (turn p w entries).world lists place thread

-- Among these turns no round stays unpublished too long: those of a stretch in which one does have at most
-- as many run frames as a round may wait.
abbrev pub NoneWaitsLonger : Plan → World → List (List Entry) → Type 0
NoneWaitsLonger p w lists =
    (early stretch late : List (List Entry)) (place : ℕ) (d : Thread) → lists ≡ early ++ (stretch ++ late)
    → place < length (threads_beside p)
    → StaysUnpublished p (after_turns p w early) stretch place (slice_index_or (threads_beside p) place d)
    → run_frames p (after_turns p w early) stretch ≤ patience

-- Publications that were chosen by polls leave no round unpublished too long.
abbrev pub RoundsAreBounded : Type 0
RoundsAreBounded =
    (p : Plan) (w : World) (lists : List (List Entry)) (polls : List Poll) (waits : List ℕ)
    → AreChosen p w lists polls waits → NoneWaitsLonger p w lists
