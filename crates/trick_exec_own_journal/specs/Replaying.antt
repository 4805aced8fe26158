-- A replay of the journal that a run wrote writes the same files.
use Rattle.std.specs.FinMap.{get}
use Rattle.std.specs.Prelude.{◌≡◌, ℕ, List, Ok, Option, Some}
use Rattle.trick_base.specs.Files.{Files}
use Rattle.trick_exec_own_journal.specs.Written.{IsWritten, written_text}
use Rattle.trick_model.specs.Files.{file}
use Rattle.trick_model.specs.JournalText.{IsJournal}
use Rattle.trick_model.specs.Plan.{Plan}
use Rattle.trick_model.specs.Run.{JournalFits, final}
use Rattle.trick_model.specs.State.{State}
use Rattle.trick_model.specs.declared.entry.Entry.{Entry}
use Rattle.trick_model.specs.declared.journal.Journal.{Journal}
use Rattle.trick_outside.specs.declared.shelf.Shelf.{Ghosts}
use Rattle.trick_exec_alone.specs.Replay.{RunsReplay, lists_for}
use Rattle.trick_exec_alone.specs.declared.replayed.Replayed.TheVariants.{Ended}
use Rattle.trick_exec_alone.specs.declared.replayed.Replayed.{Replayed}
use Rattle.trick_exec_alone.specs.Serial.{summary_of}

-- Whatever journal is read from the text that a run wrote, it fits the run's first state, and its run writes the same
-- files.
pub record ReadsBack (p : Plan) (s : State) (lists : List (List Entry)) (journal : Journal) : Type 0 where
  pub fits : JournalFits p s journal.entries journal.end
  pub last : final p s (lists_for journal s) ≡ final p s lists
  pub same : (name : List ℕ) (before : Option (List ℕ))
      → file name p s (lists_for journal s) before ≡ file name p s lists before

abbrev pub WrittenTextsReadBack : Type 0
WrittenTextsReadBack =
    (p : Plan) (s : State) (lists : List (List Entry)) (journal : Journal) → IsWritten p s lists
    → IsJournal p s.turn (written_text p s lists) journal → ReadsBack p s lists journal

-- A replay that does not stop came to the end of the run, and, where the shelf tells, each file is that of the run.
pub record RunsAgain {S : Type 0} (shelf : Ghosts S) (p : Plan) (s : State) (lists : List (List Entry)) (old new : S)
    (replayed : Replayed) : Type 0 where
  pub joins : ℕ
  pub ended : replayed ≡ Ended (summary_of (final p s lists)) joins
  pub files : (before : Files) → shelf.holds old ≡ Some before
      → (now : Files) × (shelf.holds new ≡ Some now)
      × ((name : List ℕ) → get now name ≡ file name p s lists (get before name))

-- So it is with each replay of a journal of that text from the run's first state.
abbrev pub ReplaysRunAgain : {S : Type 0} → Ghosts S → Type 0
ReplaysRunAgain {S} shelf =
    (p : Plan) (s : State) (lists : List (List Entry)) (journal : Journal) (old new : S) (replayed : Replayed)
    → IsWritten p s lists → IsJournal p s.turn (written_text p s lists) journal
    → RunsReplay shelf p s journal old new (Ok replayed) → RunsAgain shelf p s lists old new replayed
