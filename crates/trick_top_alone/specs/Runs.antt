-- Which run of a plan it is: one without clients, or that under a journal.
use Rattle.std.specs.Prelude.{◌≡◌, ◌≢◌, ℕ, IsTrue, List, Option, None, Some}
use Rattle.trick_base.specs.Files.{Write}
use Rattle.trick_journal.specs.Refusals.{IsRefused}
use Rattle.trick_journal.specs.declared.journal_fault.JournalFault.TheVariants as fault
use Rattle.trick_journal.specs.declared.journal_fault.JournalFault.{JournalFault}
use Rattle.trick_model.specs.JournalText.{IsJournal}
use Rattle.trick_model.specs.PlanOf.{plan_of}
use Rattle.trick_model.specs.Run.{AreSerial, IsOwnJournal, JournalFits, given, goes_on, opened}
use Rattle.trick_model.specs.State.{State}
use Rattle.trick_model.specs.declared.entry.Entry.{Entry}
use Rattle.trick_model.specs.declared.journal.Journal.{Journal}
use Rattle.trick_model.specs.declared.plan.Plan.{Plan}
use Rattle.trick_outside.specs.Calls.{Call}
use Rattle.trick_exec_meaning.specs.Follows.{Follows}
use Rattle.trick_exec_meaning.specs.Laws.{told_by}
use Rattle.trick_exec_meaning.specs.Ran.{writes_so_far}
use Rattle.trick_exec_alone.specs.Replay.{lists_below, lists_for}
use Rattle.trick_exec_tic.specs.Steps.{steps_of}

-- ---- journals

-- The text is that of a journal for a run of a plan from this state.
abbrev pub IsJournalFor : Plan → State → List ℕ → Journal → Type 0
IsJournalFor plan first text journal = IsJournal (plan_of plan) first.turn text journal

-- The text is that of no journal for such a run, for this reason.
pub record IsUnread (plan : Plan) (first : State) (text : List ℕ) (why : JournalFault) : Type 0 where
  pub refused : IsRefused (plan_of plan) first.turn text why
  pub known : why ≢ fault.OutOfMemory
  pub none : (journal : Journal) → IsJournalFor plan first text journal → ⊥

-- A journal fits a run from this state: the run under it is over at the journal's end.
abbrev pub IsFitting : Plan → State → Journal → Type 0
IsFitting plan first journal = JournalFits (plan_of plan) first journal.entries journal.end

-- ---- whole runs

-- These are the lists of a journal of the text, which fits.
pub record IsWholeUnder (plan : Plan) (text : List ℕ) (first : State) (lists : List (List Entry)) : Type 0 where
  pub journal : Journal
  pub is : IsJournalFor plan first text journal
  pub fits : IsFitting plan first journal
  pub are : lists ≡ lists_for journal first

-- The whole run from a state has these turns, under the journal of a text, where there is one, and else without
-- clients.
abbrev pub IsWholeRun : Plan → Option (List ℕ) → State → List (List Entry) → Type 0
IsWholeRun plan None first lists = IsOwnJournal (plan_of plan) first lists
IsWholeRun plan (Some text) first lists = IsWholeUnder plan text first lists

-- ---- runs that are under way

-- A run without clients from a state is not over before it has had these turns.
pub record GoesAlone (plan : Plan) (first : State) (lists : List (List Entry)) : Type 0 where
  pub goes : IsTrue (goes_on (plan_of plan) (opened first) lists)
  pub published : AreSerial (plan_of plan) (opened first) lists

-- A run under a journal of the text is given these lists first, and is not over before each of them.
pub record GoesUnder (plan : Plan) (text : List ℕ) (first : State) (lists : List (List Entry)) : Type 0 where
  pub journal : Journal
  pub is : IsJournalFor plan first text journal
  pub follows : Follows (plan_of plan) (opened first) (told_by journal.entries journal.end first) lists

-- The run from a state, under the journal of a text or without clients, is not over before it has had these turns.
abbrev pub IsUnderWay : Plan → Option (List ℕ) → State → List (List Entry) → Type 0
IsUnderWay plan None first lists = GoesAlone plan first lists
IsUnderWay plan (Some text) first lists = GoesUnder plan text first lists

-- ---- journals that do not fit

-- The text is that of a journal, which does not fit.
pub record IsMisfit (plan : Plan) (text : List ℕ) (first : State) (journal : Journal) : Type 0 where
  pub is : IsJournalFor plan first text journal
  pub misfit : IsFitting plan first journal → ⊥

-- the turn at which its run is over, or one past the journal's end where the run would go on there; the first
-- turn where the end is below it
abbrev pub given_turn : Plan → State → Journal → ℕ
given_turn plan first journal = given (plan_of plan) first journal.entries journal.end

-- what is written by then: the first files, and what the turns up to there write
abbrev pub short_writes : Plan → State → Journal → List Write
short_writes plan first journal =
    writes_so_far (plan_of plan) first (lists_below (given_turn plan first journal) journal first)

-- its calls of the shelf
abbrev pub short_steps : Plan → State → Journal → List Call
short_steps plan first journal = steps_of (short_writes plan first journal)
