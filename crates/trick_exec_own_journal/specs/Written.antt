-- The journal that a run writes is a journal.
use Rattle.std.specs.Prelude.{◌≡◌, ◌+◌, ◌<◌, ◌≤◌, ℕ, List, length, Option, Some}
use Rattle.trick_exec_own_journal.specs.Rules.{AreRight, noted_from}
use Rattle.trick_model.specs.Acceptance.{IsAccepted}
use Rattle.trick_model.specs.Files.{file, journal_name}
use Rattle.trick_model.specs.Journal.{Noted, journal_text}
use Rattle.trick_model.specs.JournalText.{IsJournal}
use Rattle.trick_model.specs.Plan.{Plan}
use Rattle.trick_model.specs.PlanOf.{plan_of}
use Rattle.trick_model.specs.Run.{Fits, JournalFits, after_turns, final, lists_of, opened}
use Rattle.trick_model.specs.State.{State}
use Rattle.trick_model.specs.Time.{last_turn}
use Rattle.trick_model.specs.declared.entry.Entry.{Entry}
use Rattle.trick_model.specs.declared.journal.Journal.{Journal}
use Rattle.trick_model.specs.declared.plan.Plan.{Plan as PlanValue}
use Rattle.trick_model_remainder.specs.Remainder.{state_at}
use Rattle.trick_exec_laws.specs.Left.{journal_lists}

-- the entries that a run from a state notes, each with its turn
abbrev pub written_entries : Plan → State → List (List Entry) → List Noted
written_entries p s lists = noted_from s.turn (journal_lists p (opened s) lists)

-- the text of its journal: where it begins, these entries, and the turn at which it is over
abbrev pub written_text : Plan → State → List (List Entry) → List ℕ
written_text p s lists = journal_text s.turn (written_entries p s lists) (final p s lists).turn

-- The journal of a run from a state has this text. It is that of a journal, which fits the state and gives each turn
-- what it noted; and a run under these lists writes the same files.
pub record IsWritten (p : Plan) (s : State) (lists : List (List Entry)) : Type 0 where
  pub held : (before : Option (List ℕ)) → file journal_name p s lists before ≡ Some (written_text p s lists)
  pub journal : Journal
  pub is : IsJournal p s.turn (written_text p s lists) journal
  pub entries : journal.entries ≡ written_entries p s lists
  pub end : journal.end ≡ (final p s lists).turn
  pub fits : JournalFits p s journal.entries journal.end
  pub gives : lists_of journal.entries journal.end s.turn s.mode ≡ journal_lists p (opened s) lists
  pub same : (name : List ℕ) (before : Option (List ℕ))
      → file name p s (lists_of journal.entries journal.end s.turn s.mode) before ≡ file name p s lists before

-- So it is with each whole run of an accepted plan whose lists are right, as long as turns are counted.
abbrev pub WrittenJournals : Type 0
WrittenJournals =
    (plan : PlanValue) (s : State) (lists : List (List Entry)) → ∥ IsAccepted (plan_of plan) ∥₁
    → Fits (plan_of plan) s lists → s.turn + length lists ≤ last_turn → AreRight (plan_of plan) s lists
    → IsWritten (plan_of plan) s lists

-- ---- the count of turns

-- As long as turns are counted, a state has the turn of the first one and as many more as were done since, at the end
-- of a run and before. They were counted where the last state's turn is below the last one that is counted. The state
-- before a turn of a run under a journal has that turn.
pub record TurnsAreCounted : Type 0 where
  pub after : (p : Plan) (s : State) (lists : List (List Entry)) → s.turn + length lists ≤ last_turn
      → (after_turns p (opened s) lists).state.turn ≡ s.turn + length lists
  pub last : (p : Plan) (s : State) (lists : List (List Entry)) → s.turn + length lists ≤ last_turn
      → (final p s lists).turn ≡ s.turn + length lists
  pub counted : (p : Plan) (s : State) (lists : List (List Entry)) → s.turn ≤ last_turn
      → (final p s lists).turn < last_turn → s.turn + length lists ≤ last_turn
  pub before : (p : Plan) (s : State) (entries : List Noted) (turn : ℕ) → s.turn ≤ turn → turn ≤ last_turn
      → (state_at p s entries turn).turn ≡ turn
