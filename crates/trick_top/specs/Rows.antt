-- How `run` goes: a case for each row of the table of statuses, with the shelf, the door and the spawner before and
-- after, and the verdict. The top call is lent a shelf, and handed a door and a spawner, which it hands back.
use Rattle.std.specs.Prelude.{◌≡◌, ◌+◌, ◌-◌, ◌^◌, min, nat_le, ℕ, Bool, List, Ok, Err, Result, Some}
use Rattle.trick_codes.specs.declared.load_fault.LoadFault.{LoadFault}
use Rattle.trick_model.specs.PlanOf.{plan_of}
use Rattle.trick_model.specs.State.{State}
use Rattle.trick_model.specs.declared.plan.Plan.{Plan}
use Rattle.trick_outside.specs.declared.stop.Stop.TheVariants as stop
use Rattle.trick_outside.specs.declared.stop.Stop.{Stop}
use Rattle.trick_top_texts.specs.Texts.{IsPlanRefused, IsReady, IsTextRefused}
use Rattle.trick_top_refusals.specs.Checkpoint.{checkpoint_line}
use Rattle.trick_exec_alone.specs.declared.summary.Summary.{Summary}
use Rattle.trick_serve.specs.Served.{HasServedRun}
use Rattle.trick_serve.specs.Serving.{Moment, Outside, moment}
use Rattle.trick_top_alone.specs.First.{IsFirst, IsUnloaded}
use Rattle.trick_top_alone.specs.Outcome.{HasFound, HasNotFound}
use Rattle.trick_top_alone.specs.Sources.{AreNamed, Sources, texts_of}
use Rattle.trick_top_alone.specs.Verdict.{OutOfMemory, PlanRefused, Served, ShelfFault, TextRefused, Verdict}
use Rattle.trick_top_alone.specs.Words.{AsksToRun, names_of}
use Rattle.trick_top_words.specs.declared.command.Texts.{Texts}

-- ---- what is said of a run

-- Whether a count rose, or stands at its end, 2 ^ 64 - 1.
abbrev pub has_risen : ℕ → ℕ → Bool
has_risen before now = nat_le (min (before + 1) (2 ^ 64 - 1)) now

-- the verdict on a run that was served and ended so, with so many sessions, whose door failed or not
abbrev pub served_verdict : Result Summary Stop → ℕ → Bool → Verdict
served_verdict (Ok ended) sessions door_failed = Served ended sessions door_failed
served_verdict (Err stop.Shelf) sessions door_failed = ShelfFault
served_verdict (Err stop.Memory) sessions door_failed = OutOfMemory

-- ---- the rows

-- A run of these texts does not begin, by this verdict: a text or the plan is refused, the text to go on from is no
-- checkpoint, or there was no memory.
pub data DoesNotBegin (given : Sources) : Verdict → Type 0 where
  text_refused : {line : List ℕ} → IsTextRefused given.s_define given.input line
      → DoesNotBegin given (TextRefused line)
  plan_refused : {line : List ℕ} → IsPlanRefused given.s_define given.input line
      → DoesNotBegin given (PlanRefused line)
  unloaded : {plan : Plan} {text : List ℕ} {why : LoadFault} → IsReady given.s_define given.input plan
      → given.from ≡ Some text → IsUnloaded plan text why → DoesNotBegin given (TextRefused (checkpoint_line why))
  no_memory : DoesNotBegin given OutOfMemory

module _ {F D I O S : Type 0} (o : Outside F D I O S) (failures : D → ℕ) where
  -- An accepted plan was run from a state, and served: this is what the run came to, and the verdict says it. The door
  -- is said to have failed exactly where its count rose.
  pub record IsServedSo (plan : Plan) (first : State) (old new : Moment F D S) (verdict : Verdict) : Type 0 where
    pub ended : Result Summary Stop
    pub sessions : ℕ
    pub run : HasServedRun o (plan_of plan) first old new sessions ended
    pub told : verdict ≡ served_verdict ended sessions (has_risen (failures old.door) (failures new.door))

  -- How the texts go: they decide first; where they have an accepted plan, and a state from which it is run, its run is
  -- served.
  pub data ServesTexts (given : Sources) (old new : Moment F D S) : Verdict → Type 0 where
    not_begun : {verdict : Verdict} → DoesNotBegin given verdict → new ≡ old → ServesTexts given old new verdict
    begun : {plan : Plan} {first : State} {verdict : Verdict} → IsReady given.s_define given.input plan
        → IsFirst plan given.from first → IsServedSo plan first old new verdict → ServesTexts given old new verdict

  -- How a command goes: its files decide first, and then their texts.
  pub data ServesCommand (about : Texts) (old new : Moment F D S) : Verdict → Type 0 where
    unread : {verdict : Verdict} → HasNotFound o.shelf old.shelf new.shelf (names_of about) verdict
        → new.door ≡ old.door → new.spawner ≡ old.spawner → ServesCommand about old new verdict
    found : {given : Sources} {mid : F} {verdict : Verdict}
        → HasFound o.shelf old.shelf mid (names_of about) (texts_of given) → AreNamed about given
        → ServesTexts given (moment mid old.door old.spawner) new verdict → ServesCommand about old new verdict

  -- How words go that ask to run something.
  pub data ServesWords (words : List (List ℕ)) (old new : Moment F D S) : Verdict → Type 0 where
    -- there was no memory to read them, or for what threads share
    no_memory_to_serve : new ≡ old → ServesWords words old new OutOfMemory
    asked : {about : Texts} {verdict : Verdict} → AsksToRun words about → ServesCommand about old new verdict
        → ServesWords words old new verdict
