-- What a command does with an accepted plan, and how it ends.
use Rattle.std.specs.Prelude.{◌≡◌, ℕ, List, [], ◌++◌, Option, Some, true, false, codes, length}
use Rattle.trick_base.specs.Files.{Write}
use Rattle.trick_codes.specs.declared.load_fault.LoadFault.{LoadFault}
use Rattle.trick_journal.specs.declared.journal_fault.JournalFault.{JournalFault}
use Rattle.trick_memory.specs.Listing.{listing_text}
use Rattle.trick_model.specs.Files.{run_writes, start_writes}
use Rattle.trick_model.specs.PlanOf.{plan_of}
use Rattle.trick_model.specs.Run.{final}
use Rattle.trick_model.specs.Session.{Message}
use Rattle.trick_model.specs.State.{State}
use Rattle.trick_model.specs.declared.entry.Entry.{Entry}
use Rattle.trick_model.specs.declared.journal.Journal.{Journal}
use Rattle.trick_model.specs.declared.plan.Plan.{Plan}
use Rattle.trick_outside.specs.Calls.{Call, fails}
use Rattle.trick_outside.specs.Does.{IsPartOf, Went}
use Rattle.trick_outside.specs.declared.shelf.Shelf.{Ghosts}
use Rattle.trick_top_refusals.specs.Checkpoint.{checkpoint_line}
use Rattle.trick_top_refusals.specs.Journal.{journal_line}
use Rattle.trick_exec_meaning.specs.Stops.{StopsAt}
use Rattle.trick_exec_sources.specs.Joins.{joins_of}
use Rattle.trick_exec_alone.specs.Serial.{summary_of}
use Rattle.trick_exec_tic.specs.Steps.{steps_of}
use Rattle.trick_top_alone.specs.First.{IsFirst, IsUnloaded}
use Rattle.trick_top_alone.specs.Runs.{IsMisfit, IsUnderWay, IsUnread, IsWholeRun, given_turn, short_steps}
use Rattle.trick_top_alone.specs.Verdict.{Verdict, Accepted, Ended, JournalLength, Listed, OutOfMemory, ShelfFault}
use Rattle.trick_top_alone.specs.Verdict.{TextRefused}
use Rattle.trick_top_alone.specs.Aims as aim
use Rattle.trick_top_alone.specs.Aims.{Aim}

-- What `check` says. The threads are thread 0 and each child thread with a job: an accepted plan has
-- no others.
abbrev pub accepted_verdict : Plan → Verdict
accepted_verdict plan = Accepted (length plan.program.cells) (length plan.program.jobs) (length plan.threads)

-- what `list` says
abbrev pub listed_verdict : Plan → Verdict
listed_verdict plan = Listed (listing_text plan.program.cells ++ codes "\n")

-- what a run writes from a state on, under the entries of its turns
abbrev pub all_writes : Plan → State → List (List Entry) → List Write
all_writes plan first lists = run_writes (plan_of plan) first lists

-- its calls of the shelf
abbrev pub run_steps : Plan → State → List (List Entry) → List Call
run_steps plan first lists = steps_of (all_writes plan first lists)

-- the state in which it ends
abbrev pub last_state : Plan → State → List (List Entry) → State
last_state plan first lists = final (plan_of plan) first lists

-- what a run says that is done: what holds of its last state, and how many sessions joined
abbrev pub ended_verdict : Plan → State → List (List Entry) → Verdict
ended_verdict plan first lists = Ended (summary_of (last_state plan first lists)) (joins_of lists)

-- what is said of a journal that does not fit: its end, and the turn at which its run is over
abbrev pub length_verdict : Plan → State → Journal → Verdict
length_verdict plan first journal = JournalLength journal.end (given_turn plan first journal)

-- A run from a state, whose turns were given these lists, stopped when it had made these calls: a part of those of
-- the run, and its last files only where it is over; no message was handed over before its turn's entries were noted.
pub record StopsWith (plan : Plan) (first : State) (lists : List (List Entry)) (calls : List Call) : Type 0 where
  pub part : IsPartOf calls (run_steps plan first lists)
  pub said : List Message
  pub stops : StopsAt (plan_of plan) first (start_writes (plan_of plan) first.turn) lists calls said

-- How a command goes with an accepted plan, with the text of a checkpoint and with that of a journal, where there
-- are such texts: its calls of the shelf, and the verdict. The checkpoint decides before the journal.
pub data Acts (plan : Plan) (from journal : Option (List ℕ)) : Aim → List Call → Verdict → Type 0 where
  checked : Acts plan from journal aim.Check [] (accepted_verdict plan)
  listed : Acts plan from journal aim.List [] (listed_verdict plan)
  -- want of memory before the shelf is called
  no_memory : {t : Aim} → Acts plan from journal t [] OutOfMemory
  -- the text is no checkpoint
  unloaded : {text : List ℕ} {why : LoadFault} → from ≡ Some text → IsUnloaded plan text why
      → Acts plan from journal aim.Run [] (TextRefused (checkpoint_line why))
  -- the text is no journal
  no_journal : (first : State) {text : List ℕ} {why : JournalFault} → IsFirst plan from first → journal ≡ Some text
      → IsUnread plan first text why → Acts plan from journal aim.Run [] (TextRefused (journal_line why))
  ran : (first : State) (lists : List (List Entry)) → IsFirst plan from first → IsWholeRun plan journal first lists
      → Acts plan from journal aim.Run (run_steps plan first lists) (ended_verdict plan first lists)
  -- the journal does not fit
  misfits : (first : State) (told : Journal) {text : List ℕ} → IsFirst plan from first → journal ≡ Some text
      → IsMisfit plan text first told
      → Acts plan from journal aim.Run (short_steps plan first told) (length_verdict plan first told)
  -- the last call failed
  not_written : (first : State) (lists : List (List Entry)) {part : List Call} → IsFirst plan from first
      → IsUnderWay plan journal first lists → StopsWith plan first lists part → fails part ≡ true
      → Acts plan from journal aim.Run part ShelfFault
  -- no call failed
  no_memory_to_write : (first : State) (lists : List (List Entry)) {part : List Call} → IsFirst plan from first
      → IsUnderWay plan journal first lists → StopsWith plan first lists part → fails part ≡ false
      → Acts plan from journal aim.Run part OutOfMemory

-- How a command went with an accepted plan on a shelf, from old to new, with the texts of a checkpoint and of a
-- journal, where there are such texts.
pub record HasActed {S : Type 0} (shelf : Ghosts S) (old new : S) (plan : Plan) (from journal : Option (List ℕ))
    (t : Aim) (verdict : Verdict) : Type 0 where
  pub calls : List Call
  pub went : Went shelf old new calls
  pub acts : Acts plan from journal t calls verdict
