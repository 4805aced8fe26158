-- How a command may go on a shelf: a case for each row of the table of statuses, with each call and
-- its answer, and the verdict.
use Rattle.std.specs.Prelude.{◌≡◌, ℕ, List, [], ◌∷◌, ◌++◌, None, true, false}
use Rattle.trick_model.specs.declared.plan.Plan.{Plan}
use Rattle.trick_outside.specs.Calls.{Call, Get, Read, Stopped, fails}
use Rattle.trick_outside.specs.Does.{IsPartOf, Went}
use Rattle.trick_outside.specs.declared.shelf.Shelf.{Ghosts}
use Rattle.trick_outside.specs.declared.stop.Stop.TheVariants.{Shelf, Memory}
use Rattle.trick_top_texts.specs.Texts.{IsPlanRefused, IsReady, IsTextRefused}
use Rattle.trick_top_alone.specs.Acts.{Acts}
use Rattle.trick_top_alone.specs.Found.{Found, names, reads, texts}
use Rattle.trick_top_alone.specs.Generated.{text_steps}
use Rattle.trick_top_alone.specs.Sources.{AreNamed, Sources, generated_sources, texts_of}
use Rattle.trick_top_alone.specs.Verdict.{Verdict, Usage, NoFile, TextRefused, PlanRefused, ShelfFault, OutOfMemory, with_objects}
use Rattle.trick_top_alone.specs.Words.{Wanted, Asked, Nothing, Unknown, aim_of_task, names_of}
use Rattle.trick_top_words.specs.declared.command.Texts.{Texts}
use Rattle.trick_top_words.specs.declared.command.Command.TheVariants as commands
use Rattle.trick_top_alone.specs.Aims as aim
use Rattle.trick_top_alone.specs.Aims.{Aim}

-- How the texts of a simulation go: they decide first, by the lines that refuse them, and then what is done
-- with the plan that they have.
pub data Performed (t : Aim) (given : Sources) : List Call → Verdict → Type 0 where
  text_refused : {line : List ℕ} → IsTextRefused given.s_define given.input line
      → Performed t given [] (TextRefused line)
  plan_refused : {line : List ℕ} → IsPlanRefused given.s_define given.input line
      → Performed t given [] (PlanRefused line)
  -- want of memory at a text
  not_understood : Performed t given [] OutOfMemory
  acted : {plan : Plan} {calls : List Call} {verdict : Verdict} → IsReady given.s_define given.input plan
      → Acts plan given.from given.journal t calls verdict → Performed t given calls verdict

-- How a command goes once its files are found, by their texts.
pub record GoesOn (about : Texts) (texts : List (List ℕ)) (calls : List Call) (verdict : Verdict) : Type 0 where
  pub given : Sources
  pub named : AreNamed about given
  pub are : texts ≡ texts_of given
  pub performed : Performed (aim_of_task about.task) given calls verdict

-- How the files of these names are read, one after another, where it ends with a verdict.
pub data Unread (wanted : List (List ℕ)) : List Call → Verdict → Type 0 where
  missing : (files : List Found) (name : List ℕ) (others : List (List ℕ)) → wanted ≡ names files ++ name ∷ others
      → Unread wanted (reads files ++ Read name None ∷ []) (NoFile name)
  not_read : (files : List Found) (name : List ℕ) (others : List (List ℕ)) → wanted ≡ names files ++ name ∷ others
      → Unread wanted (reads files ++ Stopped (Get name) Shelf ∷ []) ShelfFault
  no_memory_to_read : (files : List Found) (name : List ℕ) (others : List (List ℕ))
      → wanted ≡ names files ++ name ∷ others
      → Unread wanted (reads files ++ Stopped (Get name) Memory ∷ []) OutOfMemory

-- How a command goes: its files decide first, and then their texts.
pub data Goes (about : Texts) : List Call → Verdict → Type 0 where
  unread : {calls : List Call} {verdict : Verdict} → Unread (names_of about) calls verdict
      → Goes about calls verdict
  gone_on : (files : List Found) (calls : List Call) {verdict : Verdict} → names_of about ≡ names files
      → GoesOn about (texts files) calls verdict → Goes about (reads files ++ calls) verdict

-- How a generated simulation goes: its two texts are written, and then run as `serial` runs texts.
pub data Generates (objects : ℕ) : List Call → Verdict → Type 0 where
  -- a text was not written, and the call that failed was the last
  texts_not_written : {part : List Call} → IsPartOf part (text_steps objects) → fails part ≡ true
      → Generates objects part ShelfFault
  -- there was no memory to make or to write a text, and no call failed
  no_memory_for_texts : {part : List Call} → IsPartOf part (text_steps objects) → fails part ≡ false
      → Generates objects part OutOfMemory
  texts_run : (calls : List Call) {verdict : Verdict}
      → Performed aim.Run (generated_sources objects) calls verdict
      → Generates objects (text_steps objects ++ calls) (with_objects objects verdict)

-- How it goes, by what is known of the words.
abbrev pub Outcome : Wanted → List Call → Verdict → Type 0
Outcome Unknown calls verdict = (calls ≡ []) × (verdict ≡ OutOfMemory)
Outcome Nothing calls verdict = (calls ≡ []) × (verdict ≡ Usage)
Outcome (Asked (commands.Texts about)) calls verdict = Goes about calls verdict
Outcome (Asked (commands.Gen objects)) calls verdict = Generates objects calls verdict

-- How it went on a shelf, from old to new.
pub record HasGone {S : Type 0} (shelf : Ghosts S) (old new : S) (wanted : Wanted)
    (verdict : Verdict) : Type 0 where
  pub calls : List Call
  pub went : Went shelf old new calls
  pub outcome : Outcome wanted calls verdict

-- How a command went with the texts of a simulation on a shelf, from old to new.
pub record HasPerformed {S : Type 0} (shelf : Ghosts S) (old new : S) (t : Aim) (given : Sources)
    (verdict : Verdict) : Type 0 where
  pub calls : List Call
  pub went : Went shelf old new calls
  pub performed : Performed t given calls verdict

-- From old to new files of these names were read and found, with these texts.
pub record HasFound {S : Type 0} (shelf : Ghosts S) (old new : S) (wanted given : List (List ℕ)) : Type 0 where
  pub files : List Found
  pub named : wanted ≡ names files
  pub is : given ≡ texts files
  pub went : Went shelf old new (reads files)

-- From old to new files of these names were read, and it ended with a verdict.
pub record HasNotFound {S : Type 0} (shelf : Ghosts S) (old new : S) (wanted : List (List ℕ))
    (verdict : Verdict) : Type 0 where
  pub calls : List Call
  pub went : Went shelf old new calls
  pub unread : Unread wanted calls verdict
