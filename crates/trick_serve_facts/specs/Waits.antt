-- How a run ends that waits in Freeze.
use Rattle.std.specs.Prelude.{◌≡◌, ◌⊎◌, ℕ, ◌+◌, nat_lt, Bool, true, ◌&&◌, List, Some, None}
use Rattle.trick_model.specs.Commands.{lines as lines_of}
use Rattle.trick_model.specs.Plan.{Plan}
use Rattle.trick_model.specs.Run.{after_turns, opened}
use Rattle.trick_model.specs.State.{State, World}
use Rattle.trick_model.specs.Turn.{is_frozen}
use Rattle.trick_model.specs.declared.entry.Cause.{Cause}
use Rattle.trick_model.specs.declared.entry.Entry.{Entry}
use Rattle.trick_exec_meaning.specs.Ran.{last_answer}
use Rattle.trick_serve_source.specs.Calls.{View}
use Rattle.trick_serve_hearing.specs.Life.{own}
use Rattle.trick_serve_hearing.specs.Sides.{Queues, side}
use Rattle.trick_serve_facts.specs.Clients.{EndSays, LinkTale}
use Rattle.trick_serve_facts.specs.Life.{life}
use Rattle.trick_serve_facts.specs.Serves.{IsServedRun, all_entries}

-- whether a run that is over in this world waited for a line that could not come any more: it is frozen below its limit
abbrev pub waits : World → Bool
waits w = is_frozen w.state.mode && nat_lt w.state.tic w.state.limit

-- Session n has left, or has said all lines of its client's bytes, where its link tells them.
abbrev pub IsHeardOut : List (List Entry) → ℕ → LinkTale → Type 0
IsHeardOut lists n tale =
    ((lines : List (List ℕ)) × (why : Cause) × (own n (all_entries lists) ≡ life n lines (Some why)))
    ⊎ ((bytes : List ℕ) → tale.told ≡ Some bytes → own n (all_entries lists) ≡ life n (lines_of bytes) None)

-- So is each client that has a seat, where a run that was served is over as it waits.
abbrev pub ClientsAreHeardOut : Type 0
ClientsAreHeardOut =
    (p : Plan) (s : State) (lists : List (List Entry)) (old new : View) (k : ℕ) (queues : Queues) (tale : LinkTale)
    (run : IsServedRun p s lists old new) → run.last ≡ last_answer (after_turns p (opened s) lists)
    → waits (after_turns p (opened s) lists) ≡ true → (side new.seats k).queues ≡ Some queues
    → EndSays tale (side new.seats k) → IsHeardOut lists (k + 1) tale

-- No client comes any more to a run that is over as it waits.
abbrev pub WaitingIsOver : Type 0
WaitingIsOver =
    (p : Plan) (s : State) (lists : List (List Entry)) (old new : View) (run : IsServedRun p s lists old new)
    → run.last ≡ last_answer (after_turns p (opened s) lists) → waits (after_turns p (opened s) lists) ≡ true
    → new.over ≡ true
