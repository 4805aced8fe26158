-- How a command ends, with the status and the printed line of each end.
use Rattle.std.specs.Fmt.{signed_decimal}
use Rattle.std.specs.Prelude.{ℕ, ℤ, zero, suc, ◌*◌, Bool, true, false, List, ◌++◌, Result, Ok, Err, codes, decimal}
use Rattle.trick_codes.specs.declared.load_fault.LoadFault.TheVariants as load_fault
use Rattle.trick_codes.specs.declared.load_fault.LoadFault.{LoadFault}
use Rattle.trick_journal.specs.declared.journal_fault.JournalFault.TheVariants as journal_fault
use Rattle.trick_journal.specs.declared.journal_fault.JournalFault.{JournalFault}
use Rattle.trick_outside.specs.declared.stop.Stop.TheVariants as stop
use Rattle.trick_outside.specs.declared.stop.Stop.{Stop}
use Rattle.trick_top_texts.specs.declared.unready.Unready.TheVariants as unready
use Rattle.trick_top_texts.specs.declared.unready.Unready.{Unready}
use Rattle.trick_top_refusals.specs.Checkpoint.{checkpoint_line}
use Rattle.trick_top_refusals.specs.Journal.{journal_line, length_line}
use Rattle.trick_exec_alone.specs.declared.replayed.Replayed.TheVariants as replayed
use Rattle.trick_exec_alone.specs.declared.replayed.Replayed.{Replayed}
use Rattle.trick_exec_alone.specs.declared.summary.Summary as serial
use Rattle.trick_top_alone.specs.declared.verdict.Verdict as declared
use Rattle.trick_top_alone.specs.declared.verdict.Verdict.TheVariants as declared_verdict

pub data Verdict : Type 0 where
  -- the words ask for no command
  Usage : Verdict
  -- there is no file of this name
  NoFile : (name : List ℕ) → Verdict
  -- a text is refused, with this line
  TextRefused : (line : List ℕ) → Verdict
  -- the plan is not accepted, with this line
  PlanRefused : (line : List ℕ) → Verdict
  -- the plan is accepted: so many cells, jobs and threads
  Accepted : (cells jobs threads : ℕ) → Verdict
  -- the cells are listed by this line
  Listed : (line : List ℕ) → Verdict
  -- the run came to its end, of which this is said, and had so many sessions
  Ended : (ended : serial.Summary) (sessions : ℕ) → Verdict
  -- the run of a generated simulation of so many objects came to its end
  Generated : (objects : ℕ) (ended : serial.Summary) (sessions : ℕ) → Verdict
  -- the run with clients came to its end, of which this is said, and had so many sessions; and whether its door failed
  Served : (ended : serial.Summary) (sessions : ℕ) (door_failed : Bool) → Verdict
  -- the journal does not fit: it ends at one turn, and its run at another
  JournalLength : (kept given : ℕ) → Verdict
  -- the shelf failed
  ShelfFault : Verdict
  -- there was no memory
  OutOfMemory : Verdict

-- a run that came to its end is done, or it had faults
abbrev pub ended_status : ℕ → ℕ
ended_status zero = 0
ended_status (suc faults) = 4

abbrev pub status_of : Verdict → ℕ
status_of Usage = 1
status_of (NoFile name) = 9
status_of (TextRefused line) = 2
status_of (PlanRefused line) = 3
status_of (Accepted cells jobs threads) = 0
status_of (Listed line) = 0
status_of (Ended ended sessions) = ended_status ended.faults
status_of (Generated objects ended sessions) = ended_status ended.faults
status_of (Served ended sessions door_failed) = ended_status ended.faults
status_of (JournalLength kept given) = 7
status_of ShelfFault = 5
status_of OutOfMemory = 6

-- what a run says, up to the end of its line: its turns, the first tic that was not run, its faults and its sessions
abbrev pub ended_facts : serial.Summary → ℕ → List ℕ
ended_facts ended sessions =
    codes "ended turns=" ++ decimal ended.turns ++ codes " tic=" ++ decimal ended.tic ++ codes " faults="
    ++ decimal ended.faults ++ codes " sessions=" ++ decimal sessions

abbrev pub ended_line : serial.Summary → ℕ → List ℕ
ended_line ended sessions = ended_facts ended sessions ++ codes "\n"

-- what a run with clients says: the same, and that its door failed, where it did
abbrev pub served_line : serial.Summary → ℕ → Bool → List ℕ
served_line ended sessions true = ended_facts ended sessions ++ codes " door=failed\n"
served_line ended sessions false = ended_line ended sessions

-- what is said of a generated simulation, which has three jobs for each object, with the sum of its cells
abbrev pub generated_line : ℕ → ℤ → List ℕ
generated_line objects sum =
    codes "gen " ++ decimal objects ++ codes " objects=" ++ decimal objects ++ codes " jobs=" ++ decimal (3 * objects)
    ++ codes " sum=" ++ signed_decimal sum ++ codes "\n"

abbrev pub line_of : Verdict → List ℕ
line_of Usage = codes "usage: tricks serial|run|replay|check|list|gen\n"
line_of (NoFile name) = codes "refused NoFile " ++ name ++ codes "\n"
line_of (TextRefused line) = line
line_of (PlanRefused line) = line
line_of (Accepted cells jobs threads) =
    codes "accepted cells=" ++ decimal cells ++ codes " jobs=" ++ decimal jobs ++ codes " threads=" ++ decimal threads
    ++ codes "\n"
line_of (Listed line) = line
line_of (Ended ended sessions) = ended_line ended sessions
line_of (Generated objects ended sessions) = generated_line objects ended.sum ++ ended_line ended sessions
line_of (Served ended sessions door_failed) = served_line ended sessions door_failed
line_of (JournalLength kept given) = length_line kept given
line_of ShelfFault = codes "refused ShelfFault\n"
line_of OutOfMemory = codes "refused OutOfMemory\n"

-- Whether its line has to be made, for which memory is needed. The others are there already.
abbrev pub is_made : Verdict → Bool
is_made Usage = false
is_made (NoFile name) = true
is_made (TextRefused line) = false
is_made (PlanRefused line) = false
is_made (Accepted cells jobs threads) = true
is_made (Listed line) = false
is_made (Ended ended sessions) = true
is_made (Generated objects ended sessions) = true
is_made (Served ended sessions door_failed) = true
is_made (JournalLength kept given) = true
is_made ShelfFault = false
is_made OutOfMemory = false

-- the verdict that a value of the program stands for
abbrev pub verdict_of : declared.Verdict → Verdict
verdict_of declared_verdict.Usage = Usage
verdict_of (declared_verdict.NoFile name) = NoFile name.now
verdict_of (declared_verdict.TextRefused line) = TextRefused line.items
verdict_of (declared_verdict.PlanRefused line) = PlanRefused line.items
verdict_of (declared_verdict.Accepted cells jobs threads) = Accepted cells jobs threads
verdict_of (declared_verdict.Listed line) = Listed line.items
verdict_of (declared_verdict.Ended ended sessions) = Ended ended sessions
verdict_of (declared_verdict.Generated objects ended sessions) = Generated objects ended sessions
verdict_of (declared_verdict.Served ended sessions door_failed) = Served ended sessions door_failed
verdict_of (declared_verdict.JournalLength kept given) = JournalLength kept given
verdict_of declared_verdict.ShelfFault = ShelfFault
verdict_of declared_verdict.OutOfMemory = OutOfMemory

-- the verdict on two texts that have no plan to go on with
abbrev pub unready_verdict : Unready → Verdict
unready_verdict (unready.TextRefused line) = TextRefused line.items
unready_verdict (unready.PlanRefused line) = PlanRefused line.items
unready_verdict unready.OutOfMemory = OutOfMemory

-- the verdict on a run without clients that ended so: no session has joined
abbrev pub run_verdict : Result serial.Summary Stop → Verdict
run_verdict (Ok ended) = Ended ended 0
run_verdict (Err stop.Shelf) = ShelfFault
run_verdict (Err stop.Memory) = OutOfMemory

-- the verdict on a run under a journal that ended so
abbrev pub replay_verdict : Result Replayed Stop → Verdict
replay_verdict (Ok (replayed.Ended ended joins)) = Ended ended joins
replay_verdict (Ok (replayed.Length kept given)) = JournalLength kept given
replay_verdict (Err stop.Shelf) = ShelfFault
replay_verdict (Err stop.Memory) = OutOfMemory

-- the verdict on a text that is no checkpoint
abbrev pub unloaded_verdict : LoadFault → Verdict
unloaded_verdict (load_fault.BadLine line) = TextRefused (checkpoint_line (load_fault.BadLine line))
unloaded_verdict (load_fault.WrongPlan line) = TextRefused (checkpoint_line (load_fault.WrongPlan line))
unloaded_verdict (load_fault.OutOfRange line) = TextRefused (checkpoint_line (load_fault.OutOfRange line))
unloaded_verdict (load_fault.Truncated at) = TextRefused (checkpoint_line (load_fault.Truncated at))
unloaded_verdict (load_fault.Trailing at) = TextRefused (checkpoint_line (load_fault.Trailing at))
unloaded_verdict load_fault.OutOfMemory = OutOfMemory

-- the verdict on a text that is no journal
abbrev pub unread_verdict : JournalFault → Verdict
unread_verdict (journal_fault.BadLine line) = TextRefused (journal_line (journal_fault.BadLine line))
unread_verdict (journal_fault.NotRising line) = TextRefused (journal_line (journal_fault.NotRising line))
unread_verdict (journal_fault.NotJoined line) = TextRefused (journal_line (journal_fault.NotJoined line))
unread_verdict (journal_fault.NotAsync line) = TextRefused (journal_line (journal_fault.NotAsync line))
unread_verdict (journal_fault.NoEnd line) = TextRefused (journal_line (journal_fault.NoEnd line))
unread_verdict journal_fault.OutOfMemory = OutOfMemory

-- The verdict on the run of a generated simulation: where it came to its end, it is told with the number
-- of its objects.
abbrev pub with_objects : ℕ → Verdict → Verdict
with_objects objects Usage = Usage
with_objects objects (NoFile name) = NoFile name
with_objects objects (TextRefused line) = TextRefused line
with_objects objects (PlanRefused line) = PlanRefused line
with_objects objects (Accepted cells jobs threads) = Accepted cells jobs threads
with_objects objects (Listed line) = Listed line
with_objects objects (Ended ended sessions) = Generated objects ended sessions
with_objects objects (Generated others ended sessions) = Generated others ended sessions
with_objects objects (Served ended sessions door_failed) = Served ended sessions door_failed
with_objects objects (JournalLength kept given) = JournalLength kept given
with_objects objects ShelfFault = ShelfFault
with_objects objects OutOfMemory = OutOfMemory
