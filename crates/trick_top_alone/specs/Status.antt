-- What each status says.
use Rattle.std.specs.FinMap.{get}
use Rattle.std.specs.Prelude.{◌≡◌, ◌⊎◌, ℕ, List, [], ◌∷◌, ◌++◌, Option, Some, None, map}
use Rattle.trick_base.specs.Content.{content}
use Rattle.trick_base.specs.Files.{Files, Write, all_written}
use Rattle.trick_base.specs.Fronts.{IsFrontOf}
use Rattle.trick_codes.specs.declared.load_fault.LoadFault.{LoadFault}
use Rattle.trick_journal.specs.declared.journal_fault.JournalFault.{JournalFault}
use Rattle.trick_model.specs.Files.{file}
use Rattle.trick_model.specs.PlanOf.{plan_of}
use Rattle.trick_model.specs.Session.{Message}
use Rattle.trick_model.specs.State.{State}
use Rattle.trick_model.specs.declared.entry.Entry.{Entry}
use Rattle.trick_model.specs.declared.journal.Journal.{Journal}
use Rattle.trick_model.specs.declared.plan.Plan.{Plan}
use Rattle.trick_outside.specs.Calls.{Call, Read}
use Rattle.trick_outside.specs.Causes.{Rose}
use Rattle.trick_outside.specs.Does.{Went}
use Rattle.trick_outside.specs.declared.shelf.Shelf.{Ghosts}
use Rattle.trick_top_texts.specs.Texts.{IsPlanRefused, IsReady, IsTextRefused}
use Rattle.trick_top_refusals.specs.Checkpoint.{checkpoint_line}
use Rattle.trick_top_refusals.specs.Journal.{journal_line}
use Rattle.trick_chkpt_state.specs.Loaded.{IsCheckpointOf}
use Rattle.trick_exec_laws.specs.Left.{Left}
use Rattle.trick_top_alone.specs.Acts.{accepted_verdict, all_writes, ended_verdict, last_state, length_verdict}
use Rattle.trick_top_alone.specs.Acts.{listed_verdict, run_steps}
use Rattle.trick_top_alone.specs.First.{IsFirst, IsUnloaded}
use Rattle.trick_top_alone.specs.Found.{Found, names, reads, texts}
use Rattle.trick_top_alone.specs.Generated.{text_steps, text_writes}
use Rattle.trick_top_alone.specs.Runs.{IsFitting, IsJournalFor, IsMisfit, IsUnderWay, IsUnread, IsWholeRun, short_steps}
use Rattle.trick_top_alone.specs.Runs.{short_writes}
use Rattle.trick_top_alone.specs.Sources.{AreNamed, Sources, generated_sources, texts_of}
use Rattle.trick_top_alone.specs.Verdict.{Verdict, Accepted, Ended, Generated, JournalLength, Listed, NoFile}
use Rattle.trick_top_alone.specs.Verdict.{OutOfMemory, PlanRefused, Served, ShelfFault, TextRefused, Usage, with_objects}
use Rattle.trick_top_alone.specs.Words.{AreRefused, Asks, Words, aim_of, aim_of_task, names_of}
use Rattle.trick_top_words.specs.declared.command.Texts.{Texts}
use Rattle.trick_top_words.specs.declared.command.Command.TheVariants as commands
use Rattle.trick_top_words.specs.declared.command.Command.{Command}
use Rattle.trick_top_alone.specs.Aims as aim
use Rattle.trick_top_alone.specs.Aims.{Aim}

-- The status is the one that is due, or there was no memory, or the sink failed.
abbrev pub EndsWith : ℕ → ℕ → Type 0
EndsWith status due = (status ≡ due) ⊎ ((status ≡ 6) ⊎ (status ≡ 8))

-- The words ask for no generated simulation.
abbrev pub AskForFiles : Words → Type 0
AskForFiles words = (objects : ℕ) → Asks words (commands.Gen objects) → ⊥

-- The words, a missing file, a refused text and a refused plan refuse what is asked for before anything
-- is written. A generated simulation has written its texts before they could be refused.
abbrev pub IsRefusal : Words → ℕ → Type 0
IsRefusal words status =
    ((status ≡ 1) ⊎ (status ≡ 9)) ⊎ (((status ≡ 2) ⊎ (status ≡ 3)) × AskForFiles words)

-- The sink took this line, where it tells what it has taken.
abbrev pub TookLine : Option (List ℕ) → Option (List ℕ) → List ℕ → Type 0
TookLine old new line = (taken : List ℕ) → old ≡ Some taken → new ≡ Some (taken ++ line)

-- The shelf holds what it held, where it tells what it holds.
abbrev pub HoldsSame : Option Files → Option Files → Type 0
HoldsSame old new = (files : Files) → old ≡ Some files → new ≡ Some files

-- The shelf holds what it held and the two texts of a generated simulation, where it tells what it holds.
abbrev pub HoldsTexts : ℕ → Option Files → Option Files → Type 0
HoldsTexts objects old new = (files : Files) → old ≡ Some files → new ≡ Some (all_written (text_writes objects) files)

-- Status 9: of the files that the words name this one is missing, by the shelf's own answer, and the
-- ones before it were found. No other call was made.
pub record MissesFile {S : Type 0} (shelf : Ghosts S) (old new : S) (words : Words)
    (missing : List ℕ) : Type 0 where
  pub about : Texts
  pub asks : Asks words (commands.Texts about)
  pub files : List Found
  pub others : List (List ℕ)
  pub named : names_of about ≡ names files ++ missing ∷ others
  pub went : Went shelf old new (reads files ++ Read missing None ∷ [])

-- How the texts come that a request is about, by these calls: the files that the words name were found, or the
-- texts of a generated simulation were written.
pub data Come : Command → Sources → List Call → Type 0 where
  files_found : {about : Texts} {given : Sources} (files : List Found) → names_of about ≡ names files
      → AreNamed about given → texts files ≡ texts_of given → Come (commands.Texts about) given (reads files)
  texts_made : {objects : ℕ} → Come (commands.Gen objects) (generated_sources objects) (text_steps objects)

-- What was written before the texts were there.
abbrev pub earlier_writes : Command → List Write
earlier_writes (commands.Texts about) = []
earlier_writes (commands.Gen objects) = text_writes objects

-- The words ask for this; its texts came, which are these; and then these calls were made, and no others.
pub record Reads {S : Type 0} (shelf : Ghosts S) (old new : S) (words : Words) (command : Command)
    (given : Sources) (calls : List Call) : Type 0 where
  pub asks : Asks words command
  pub earlier : List Call
  pub come : Come command given earlier
  pub went : Went shelf old new (earlier ++ calls)

-- A text is refused with this line: one of the two of a simulation; or, where these have an accepted plan, that
-- of the checkpoint from which it is to be run; or, where the run has its first state, that of the journal.
pub data HasRefusal (t : Aim) (given : Sources) : List ℕ → Type 0 where
  of_text : {line : List ℕ} → IsTextRefused given.s_define given.input line → HasRefusal t given line
  of_checkpoint : {plan : Plan} {text : List ℕ} {why : LoadFault} → t ≡ aim.Run
      → IsReady given.s_define given.input plan → given.from ≡ Some text → IsUnloaded plan text why
      → HasRefusal t given (checkpoint_line why)
  of_journal : {plan : Plan} {first : State} {text : List ℕ} {why : JournalFault} → t ≡ aim.Run
      → IsReady given.s_define given.input plan → IsFirst plan given.from first → given.journal ≡ Some text
      → IsUnread plan first text why → HasRefusal t given (journal_line why)

-- Status 2: a text is refused with this line. After the texts were there no call was made.
pub record RefusesText {S : Type 0} (shelf : Ghosts S) (old new : S) (words : Words)
    (line : List ℕ) : Type 0 where
  pub command : Command
  pub given : Sources
  pub reads : Reads shelf old new words command given []
  pub refuses : HasRefusal (aim_of command) given line

-- Status 3: the plan is refused with this line. After the texts were there no call was made.
pub record RefusesPlan {S : Type 0} (shelf : Ghosts S) (old new : S) (words : Words)
    (line : List ℕ) : Type 0 where
  pub command : Command
  pub given : Sources
  pub reads : Reads shelf old new words command given []
  pub refuses : IsPlanRefused given.s_define given.input line

-- Status 0 of `check` and `list`: the texts are ready by this plan. After the two files were read no
-- call was made.
pub record Looks {S : Type 0} (shelf : Ghosts S) (old new : S) (words : Words) (t : Aim)
    (plan : Plan) : Type 0 where
  pub about : Texts
  pub is_look : aim_of_task about.task ≡ t
  pub given : Sources
  pub reads : Reads shelf old new words (commands.Texts about) given []
  pub ready : IsReady given.s_define given.input plan

-- Status 0 or 4 of `serial`, `replay` and `gen`: the run of the plan of the texts, without clients or under the
-- journal, which fits, from the plan's start or from the state of the checkpoint, is done, and had these turns.
-- Each file is the one that the run gives, every other file as it was when the run began: as before, but that `gen`
-- has written its texts.
pub record RunsToEnd {S : Type 0} (shelf : Ghosts S) (old new : S) (words : Words) (command : Command)
    (plan : Plan) (first : State) (lists : List (List Entry)) : Type 0 where
  pub is_run : aim_of command ≡ aim.Run
  pub given : Sources
  pub reads : Reads shelf old new words command given (run_steps plan first lists)
  pub ready : IsReady given.s_define given.input plan
  pub starts : IsFirst plan given.from first
  pub whole : IsWholeRun plan given.journal first lists
  pub files : (before : Files) → shelf.holds old ≡ Some before
      → (now : Files) × (shelf.holds new ≡ Some now)
      × ((name : List ℕ) → get now name
      ≡ file name (plan_of plan) first lists (get (all_written (earlier_writes command) before) name))

-- Status 7: the texts have an accepted plan, and the journal does not fit. Its turns were done up to the one at
-- which its run is over, or up to its end. Each file is what was written by then, every other file as before.
pub record Misfits {S : Type 0} (shelf : Ghosts S) (old new : S) (words : Words) (plan : Plan)
    (first : State) (journal : Journal) : Type 0 where
  pub about : Texts
  pub is_run : aim_of_task about.task ≡ aim.Run
  pub given : Sources
  pub reads : Reads shelf old new words (commands.Texts about) given (short_steps plan first journal)
  pub ready : IsReady given.s_define given.input plan
  pub starts : IsFirst plan given.from first
  pub text : List ℕ
  pub replays : given.journal ≡ Some text
  pub misfit : IsMisfit plan text first journal
  pub files : (before : Files) → shelf.holds old ≡ Some before
      → (now : Files) × (shelf.holds new ≡ Some now)
      × ((name : List ℕ) → get now name ≡ content name (short_writes plan first journal) (get before name))

-- What is said where a run came to its end, by its turns: what holds of its last state, and how many sessions
-- joined in its journal.
abbrev pub end_verdict : Command → Plan → State → List (List Entry) → Verdict
end_verdict (commands.Texts about) plan first lists = ended_verdict plan first lists
end_verdict (commands.Gen objects) plan first lists = with_objects objects (ended_verdict plan first lists)

-- A verdict tells the end of a run that is done.
abbrev pub TellsEnd : {S : Type 0} (shelf : Ghosts S) (old new : S) (words : Words) → Verdict → Type 0
TellsEnd shelf old new words verdict =
    (command : Command) × (plan : Plan) × (first : State) × (lists : List (List Entry))
    × RunsToEnd shelf old new words command plan first lists
    × (verdict ≡ end_verdict command plan first lists)

-- What a verdict says of the words and of the shelf. No run with clients is told so.
abbrev pub Says : {S : Type 0} (shelf : Ghosts S) (old new : S) (words : Words) → Verdict → Type 0
Says shelf old new words Usage = AreRefused words × Went shelf old new []
Says shelf old new words (NoFile name) = MissesFile shelf old new words name
Says shelf old new words (TextRefused line) = RefusesText shelf old new words line
Says shelf old new words (PlanRefused line) = RefusesPlan shelf old new words line
Says shelf old new words (Accepted cells jobs threads) =
    (plan : Plan) × Looks shelf old new words aim.Check plan × (Accepted cells jobs threads ≡ accepted_verdict plan)
Says shelf old new words (Listed line) =
    (plan : Plan) × Looks shelf old new words aim.List plan × (Listed line ≡ listed_verdict plan)
Says shelf old new words (Ended ended sessions) = TellsEnd shelf old new words (Ended ended sessions)
Says shelf old new words (Generated objects ended sessions) =
    TellsEnd shelf old new words (Generated objects ended sessions)
Says shelf old new words (Served ended sessions door_failed) = ⊥
Says shelf old new words (JournalLength kept given) =
    (plan : Plan) × (first : State) × (journal : Journal) × Misfits shelf old new words plan first journal
    × (JournalLength kept given ≡ length_verdict plan first journal)
Says shelf old new words ShelfFault = Rose (shelf.failures old) (shelf.failures new)
Says shelf old new words OutOfMemory = Unit {0}

-- Status 0: the plan is accepted, the cells are listed, or the run came to its end without faults. The
-- last argument is the verdict whose line is printed.
pub data IsDone {S : Type 0} (shelf : Ghosts S) (old new : S) (words : Words) : Verdict → Type 0 where
  accepted : (plan : Plan) → Looks shelf old new words aim.Check plan
      → IsDone shelf old new words (accepted_verdict plan)
  listed : (plan : Plan) → Looks shelf old new words aim.List plan
      → IsDone shelf old new words (listed_verdict plan)
  ran : (command : Command) (plan : Plan) (first : State) (lists : List (List Entry))
      → RunsToEnd shelf old new words command plan first lists → ((last_state plan first lists).faults).count ≡ 0
      → IsDone shelf old new words (end_verdict command plan first lists)

-- What the shelf holds, where it tells, under the names that the words name.
pub record Finds {S : Type 0} (shelf : Ghosts S) (old : S) (words : Words) (about : Texts)
    (given : List (Option (List ℕ))) : Type 0 where
  pub asks : Asks words (commands.Texts about)
  pub files : Files
  pub told : shelf.holds old ≡ Some files
  pub held : map (get files) (names_of about) ≡ given

-- The words ask for this with these texts: the shelf holds all files that they name, where it tells what it
-- holds, or the texts are those of a generated simulation.
pub data Gives {S : Type 0} (shelf : Ghosts S) (old : S) (words : Words) : Command → Sources → Type 0 where
  files_held : {about : Texts} {given : Sources} → AreNamed about given
      → Finds shelf old words about (map Some (texts_of given)) → Gives shelf old words (commands.Texts about) given
  texts_generated : {objects : ℕ} → Asks words (commands.Gen objects)
      → Gives shelf old words (commands.Gen objects) (generated_sources objects)

-- A text is refused: one of the two of a simulation; or these have an accepted plan, and the text from which it is
-- to be run is the checkpoint of no state of it, or the one under which it is to be run is no journal of it.
pub data AreRefusedTexts (t : Aim) (given : Sources) : Type 0 where
  for_text : (line : List ℕ) → IsTextRefused given.s_define given.input line → AreRefusedTexts t given
  for_checkpoint : (plan : Plan) (text : List ℕ) → t ≡ aim.Run → IsReady given.s_define given.input plan
      → given.from ≡ Some text
      → ((other : Plan) (s : State) → IsReady given.s_define given.input other → IsCheckpointOf other text s → ⊥)
      → AreRefusedTexts t given
  for_journal : (plan : Plan) (text : List ℕ) → t ≡ aim.Run → IsReady given.s_define given.input plan
      → given.journal ≡ Some text
      → ((other : Plan) (first : State) (journal : Journal) → IsReady given.s_define given.input other
      → IsFirst other given.from first → IsJournalFor other first text journal → ⊥)
      → AreRefusedTexts t given

-- The texts have an accepted plan, a text from which it is to be run is the checkpoint of a state of it, and one
-- under which it is to be run is a journal of it for the state from which the run starts.
pub record AreAccepted (given : Sources) : Type 0 where
  pub plan : Plan
  pub ready : IsReady given.s_define given.input plan
  pub loaded : (other : Plan) (text : List ℕ) → IsReady given.s_define given.input other → given.from ≡ Some text
      → (s : State) × IsCheckpointOf other text s
  pub read : (other : Plan) (first : State) (text : List ℕ) → IsReady given.s_define given.input other
      → IsFirst other given.from first → given.journal ≡ Some text
      → (journal : Journal) × IsJournalFor other first text journal

-- The journal of the texts is so, from the state at which the run starts.
abbrev pub HasJournal : Sources → (Plan → State → Journal → Type 0) → Type 0
HasJournal given Is =
    (plan : Plan) (first : State) (text : List ℕ) (journal : Journal) → IsReady given.s_define given.input plan
    → IsFirst plan given.from first → given.journal ≡ Some text → IsJournalFor plan first text journal
    → Is plan first journal

-- The texts have no journal, or it fits.
abbrev pub IsFittingIn : Sources → Type 0
IsFittingIn given = HasJournal given IsFitting

-- The texts have a journal, and it does not fit.
pub record IsMisfitIn (given : Sources) : Type 0 where
  pub text : List ℕ
  pub replays : given.journal ≡ Some text
  pub misfit : HasJournal given (λ plan first journal. IsFitting plan first journal → ⊥)

-- What may have been written over these files: nothing, or a front of the texts of a generated simulation; or a front
-- of what the run writes that the texts describe, or all of it, after what was written before it; or what a run writes
-- whose journal does not fit. Where it is a front, the whole lines of the journal tell what happened: every other file
-- of the run is as it was when the run began, or a prefix of its file in the run under these lines.
pub data MayWrite {S : Type 0} (shelf : Ghosts S) (old : S) (words : Words) (files : Files) : List Write → Type 0 where
  nothing : MayWrite shelf old words files []
  of_texts : {objects : ℕ} {writes : List Write} → Asks words (commands.Gen objects)
      → IsFrontOf writes (text_writes objects) → MayWrite shelf old words files writes
  a_front : {command : Command} {given : Sources} {plan : Plan} (first : State) (lists : List (List Entry))
      (said : List Message) {writes : List Write} → Gives shelf old words command given → aim_of command ≡ aim.Run
      → IsReady given.s_define given.input plan → IsFirst plan given.from first
      → IsUnderWay plan given.journal first lists
      → IsFrontOf writes (earlier_writes command ++ all_writes plan first lists)
      → Left (plan_of plan) first lists said (all_written (earlier_writes command) files) (all_written writes files)
      → MayWrite shelf old words files writes
  of_whole : {command : Command} {given : Sources} {plan : Plan} (first : State) (lists : List (List Entry))
      → Gives shelf old words command given → aim_of command ≡ aim.Run → IsReady given.s_define given.input plan
      → IsFirst plan given.from first → IsWholeRun plan given.journal first lists
      → MayWrite shelf old words files (earlier_writes command ++ all_writes plan first lists)
  of_misfit : {command : Command} {given : Sources} {plan : Plan} {first : State} {text : List ℕ} {journal : Journal}
      → Gives shelf old words command given → aim_of command ≡ aim.Run → IsReady given.s_define given.input plan
      → IsFirst plan given.from first → given.journal ≡ Some text → IsMisfit plan text first journal
      → MayWrite shelf old words files (earlier_writes command ++ short_writes plan first journal)

-- Whatever the status is: what the shelf holds is what was held, and what such writes make of it.
abbrev pub Stands : {S : Type 0} (shelf : Ghosts S) (old new : S) (words : Words) → Type 0
Stands shelf old new words =
    (files : Files) → shelf.holds old ≡ Some files
    → (writes : List Write) × MayWrite shelf old words files writes
    × (shelf.holds new ≡ Some (all_written writes files))
