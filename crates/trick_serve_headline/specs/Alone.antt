-- A run to which no client came: where no thread is asynchronous, it is the run without clients.
use Rattle.std.specs.List.{list_any}
use Rattle.std.specs.Prelude.{◌≡◌, ℕ, false, List, []}
use Rattle.trick_model_sessions.specs.Silence.{newcomers}
use Rattle.trick_model.specs.Plan.{Plan, is_async, threads_beside}
use Rattle.trick_model.specs.Run.{Fits, IsOwnJournal, opened}
use Rattle.trick_model.specs.State.{State}
use Rattle.trick_model.specs.declared.entry.Entry.{Entry}
use Rattle.trick_model.specs.declared.thread.Thread.{Thread}
use Rattle.trick_post_work.specs.Polls.{Poll}
use Rattle.trick_exec_meaning.specs.Answers.{IsSuccession}
use Rattle.trick_exec_meaning.specs.Rounds.{AreChosen}
use Rattle.trick_serve_facts.specs.Serves.{all_entries}

-- No thread of a plan is asynchronous.
abbrev pub HasNoAsynchronous : Plan → Type 0
HasNoAsynchronous p = list_any (λ (thread : Thread). is_async thread.process) (threads_beside p) ≡ false

-- The lists of a whole run in which nobody joined, with publications that were chosen, are those of the run without
-- clients, where no thread is asynchronous.
abbrev pub RunsOfNobodyAreAlone : Type 0
RunsOfNobodyAreAlone =
    (p : Plan) (s : State) (lists : List (List Entry)) (polls : List Poll) (waits : List ℕ) → Fits p s lists
    → IsSuccession false lists → AreChosen p (opened s) lists polls waits → newcomers (all_entries lists) ≡ []
    → HasNoAsynchronous p → IsOwnJournal p s lists
