-- A replay: the run of a state under a journal, or the two numbers of a journal that does not fit.
use Rattle.std.specs.FinMap.{get}
use Rattle.std.specs.Prelude.{◌≡◌, ℕ, ◌-◌, List, take, Result, Ok, Err, Some}
use Rattle.trick_base.specs.Content.{content}
use Rattle.trick_base.specs.Files.{Files}
use Rattle.trick_model.specs.Files.{file, run_writes, start_writes}
use Rattle.trick_model.specs.Plan.{Plan}
use Rattle.trick_model.specs.Run.{JournalFits, final, given as given_of, lists_of, opened}
use Rattle.trick_model.specs.Session.{Message}
use Rattle.trick_model.specs.State.{State}
use Rattle.trick_model.specs.declared.entry.Entry.{Entry}
use Rattle.trick_model.specs.declared.journal.Journal.{Journal}
use Rattle.trick_outside.specs.Does.{Does}
use Rattle.trick_outside.specs.declared.shelf.Shelf.{Ghosts}
use Rattle.trick_outside.specs.declared.stop.Stop.{Stop}
use Rattle.trick_exec_alone.specs.declared.replayed.Replayed.{Replayed}
use Rattle.trick_exec_alone.specs.declared.replayed.Replayed.TheVariants as replayed
use Rattle.trick_exec_meaning.specs.Follows.{Follows}
use Rattle.trick_exec_meaning.specs.Laws.{told_by}
use Rattle.trick_exec_meaning.specs.Ran.{writes_so_far}
use Rattle.trick_exec_meaning.specs.Stops.{StopsAt}
use Rattle.trick_exec_alone.specs.Serial.{summary_of}
use Rattle.trick_exec_alone.specs.declared.summary.Summary.{Summary}
use Rattle.trick_exec_tic.specs.Steps.{steps_of}
use Rattle.trick_exec_sources.specs.Joins.{joins_of}

-- the lists that a journal gives a run from a state, one for each turn
abbrev pub lists_for : Journal → State → List (List Entry)
lists_for journal s = lists_of journal.entries journal.end s.turn s.mode

-- of these the lists of turns below one
abbrev pub lists_below : ℕ → Journal → State → List (List Entry)
lists_below turn journal s = take (turn - s.turn) (lists_for journal s)

-- The journal fits, and the whole run under it was done. What is said is said of its last state, and how
-- many sessions join in the journal that was written.
pub record RunsWhole {S : Type 0} (shelf : Ghosts S) (p : Plan) (s : State) (journal : Journal) (old new : S)
    (ended : Summary) (joins : ℕ) : Type 0 where
  pub fits : JournalFits p s journal.entries journal.end
  pub does : Does {T = Unit {0}} shelf old new (Ok tt) (steps_of (run_writes p s (lists_for journal s)))
  -- each file is that of the run, where the shelf tells
  pub files : (before : Files) → shelf.holds old ≡ Some before
      → (now : Files) × (shelf.holds new ≡ Some now)
      × ((name : List ℕ) → get now name ≡ file name p s (lists_for journal s) (get before name))
  pub ended_so : ended ≡ summary_of (final p s (lists_for journal s))
  pub joins_so : joins ≡ joins_of (lists_for journal s)

-- The journal does not fit. The turns were done up to that at which the run is over, or up to the journal's
-- end, and nothing was written after them. The numbers are the journal's end, and the turn at which the run
-- is over, or one past the end.
pub record RunsShort {S : Type 0} (shelf : Ghosts S) (p : Plan) (s : State) (journal : Journal) (old new : S)
    (kept given : ℕ) : Type 0 where
  pub misfit : JournalFits p s journal.entries journal.end → ⊥
  pub kept_so : kept ≡ journal.end
  pub given_so : given ≡ given_of p s journal.entries journal.end
  pub does : Does {T = Unit {0}} shelf old new (Ok tt)
      (steps_of (writes_so_far p s (lists_below given journal s)))
  -- each file is what these writes make of it, where the shelf tells
  pub files : (before : Files) → shelf.holds old ≡ Some before
      → (now : Files) × (shelf.holds new ≡ Some now)
      × ((name : List ℕ)
      → get now name ≡ content name (writes_so_far p s (lists_below given journal s)) (get before name))

-- The replay stopped when its turns were given these lists, the first of the journal, and before the run
-- was over. A part of what the run under them writes was done.
pub record StopsReplay {S : Type 0} (shelf : Ghosts S) (p : Plan) (s : State) (journal : Journal) (old new : S)
    (e : Stop) : Type 0 where
  pub lists : List (List Entry)
  pub follows : Follows p (opened s) (told_by journal.entries journal.end s) lists
  pub does : Does {T = Unit {0}} shelf old new (Err e) (steps_of (run_writes p s lists))
  -- its last files were begun only where the run is over
  pub stops : (said : List Message) × StopsAt p s (start_writes p s.turn) lists does.calls said

-- What a replay of a journal from a state did to the shelf, and what it says.
abbrev pub RunsReplay : {S : Type 0} → Ghosts S → Plan → State → Journal → S → S → Result Replayed Stop → Type 0
RunsReplay shelf p s journal old new (Ok (replayed.Ended ended joins)) = RunsWhole shelf p s journal old new ended joins
RunsReplay shelf p s journal old new (Ok (replayed.Length kept given)) = RunsShort shelf p s journal old new kept given
RunsReplay shelf p s journal old new (Err e) = StopsReplay shelf p s journal old new e
