-- What stands of the writes, whatever the status is.
use Rattle.std.proofs.Common.{◌≡◌, ℕ, List, [], ◌∷◌, ◌++◌, Some, refl, sym, ◌∙◌, ap, subst, map}
use Rattle.std.specs.FinMap.{get}
use Rattle.trick_base.proofs.WriteLemmas.{all_written-append, front_of_all, front_of_late}
use Rattle.trick_base.specs.Files.{Files, Write, all_written}
use Rattle.trick_base.specs.Fronts.{IsFrontOf}
use Rattle.trick_model.specs.PlanOf.{plan_of}
use Rattle.trick_model.specs.State.{State}
use Rattle.trick_model.specs.declared.entry.Entry.{Entry}
use Rattle.trick_model.specs.declared.plan.Plan.{Plan}
use Rattle.trick_outside.proofs.WriteLemmas.{front_of}
use Rattle.trick_outside.specs.Calls.{AllLeave, Call}
use Rattle.trick_outside.specs.Does.{IsPartOf, Went}
use Rattle.trick_outside.specs.declared.shelf.Shelf.{Ghosts}
use Rattle.trick_top_texts.specs.Texts.{IsReady}
use Rattle.trick_exec_laws.specs.Left.{Left}
use Rattle.trick_exec_tic.proofs.StepLemmas as steps
use Rattle.trick_exec_tic.specs.Steps.{steps_of}
use Rattle.trick_top_alone.proofs.FoundLemmas.{leave_reads, leave_steps}
use Rattle.trick_top_alone.proofs.SaysLemmas.{leave_earlier, written_by}
use Rattle.trick_top_alone.proofs.StoppedLemmas.{left_so}
use Rattle.trick_top_alone.specs.Acts.{Acts, StopsWith, all_writes, checked, listed, misfits, no_journal, no_memory, no_memory_to_write, not_written, ran, run_steps, unloaded}
use Rattle.trick_top_alone.specs.First.{IsFirst}
use Rattle.trick_top_alone.specs.Found.{reads}
use Rattle.trick_top_alone.specs.Generated.{text_steps, text_writes}
use Rattle.trick_top_alone.specs.Outcome.{Generates, Outcome, Performed, Unread, acted, gone_on, missing, no_memory_for_texts, no_memory_to_read, not_read, not_understood, plan_refused, text_refused, texts_not_written, texts_run, unread}
use Rattle.trick_top_alone.specs.Runs.{IsUnderWay, short_writes}
use Rattle.trick_top_alone.specs.Sources.{Sources, texts_of}
use Rattle.trick_top_alone.specs.Status.{AskForFiles, Finds, Gives, HoldsSame, HoldsTexts, MayWrite, Reads, Says, Stands, a_front, earlier_writes, files_held, nothing, of_misfit, of_texts, of_whole, texts_generated}
use Rattle.trick_top_alone.specs.Verdict.{NoFile, PlanRefused, TextRefused, Usage, Verdict}
use Rattle.trick_top_alone.specs.Words.{Asked, Asks, IsWanted, Nothing, Unknown, Wanted, Words, names_of, aim_of}
use Rattle.trick_top_words.specs.declared.command.Command.TheVariants as commands
use Rattle.trick_top_words.specs.declared.command.Command.{Command}
use Rattle.trick_top_alone.specs.Aims.{Run}
use Rattle.trick_top_alone.specs.Aims.{Aim}

-- a file that was not read leaves all as it was
pub unread_same : {wanted : List (List ℕ)} {calls : List Call} {verdict : Verdict} (held now : Files) → Unread wanted calls verdict → AllLeave calls held now → now ≡ held
unread_same held now (missing files name others named) left = let after = (leave_reads files _ held now left).1 in after.2 ∙ after.1.1
unread_same held now (not_read files name others named) left = let after = (leave_reads files _ held now left).1 in after.2 ∙ after.1
unread_same held now (no_memory_to_read files name others named) left = let after = (leave_reads files _ held now left).1 in after.2 ∙ after.1

module _ {S : Type 0} (shelf : Ghosts S) (old new : S) (words : Words) where
  -- such writes make what is held of what was held
  record HasWritten (held now : Files) : Type 0 where
    pub writes : List Write
    pub may : MayWrite shelf old words held writes
    pub is : now ≡ all_written writes held

  none_written : (held now : Files) → now ≡ held → HasWritten held now
  none_written held now same = record { writes = []; may = nothing; is = same }

  -- a part of the texts of a generated simulation
  texts_part : (objects : ℕ) (held now : Files) (part : List Call) → Asks words (commands.Gen objects) → IsPartOf part (text_steps objects) → AllLeave part held now → HasWritten held now
  texts_part objects held now part asks is left =
      let writes = text_writes objects in
      let front = front_of part (text_steps objects) held now (steps.all_done writes) is left in
      record {
        writes = front.writes;
        may = of_texts asks (subst (λ (w : List Write). IsFrontOf front.writes w) (steps.writes_of-steps_of writes) front.front);
        is = front.is;
      }

  -- a front of what is written before the two texts are there
  early_written : (command : Command) {given : Sources} (held now : Files) (writes : List Write) → Gives shelf old words command given
      → IsFrontOf writes (earlier_writes command) → now ≡ all_written writes held → HasWritten held now
  early_written (commands.Texts about) held now [] gives front is = none_written held now is
  early_written (commands.Texts about) held now (write ∷ writes) gives front is = absurd front
  early_written (commands.Gen objects) held now writes (texts_generated asks) front is = record { writes = writes; may = of_texts asks front; is = is }

  -- after the two texts are there
  module _ (command : Command) {given : Sources} (gives : Gives shelf old words command given) (held now : Files) where
    -- what was held when the run began
    abbrev begun : Files
    begun = all_written (earlier_writes command) held

    -- no call, or none that wrote
    texts_written : now ≡ begun → HasWritten held now
    texts_written is = early_written command held now (earlier_writes command) gives (front_of_all (earlier_writes command)) is

    -- all of these writes
    whole_written : (writes : List Write) → MayWrite shelf old words held (earlier_writes command ++ writes) → AllLeave (steps_of writes) begun now → HasWritten held now
    whole_written writes may left = record {
      writes = earlier_writes command ++ writes;
      may = may;
      is = written_by writes begun now left ∙ sym (all_written-append (earlier_writes command) writes held);
    }

    -- a part of a run
    part_written : {plan : Plan} (first : State) (lists : List (List Entry)) (part : List Call) → aim_of command ≡ Run → IsReady given.s_define given.input plan → IsFirst plan given.from first
        → IsUnderWay plan given.journal first lists → StopsWith plan first lists part → AllLeave part begun now → HasWritten held now
    part_written {plan = plan} first lists part is_run ready starts under_way is left =
        let writes = all_writes plan first lists in
        let front = front_of part (run_steps plan first lists) begun now (steps.all_done writes) is.part left in
        let of_run : IsFrontOf front.writes writes = subst (λ (w : List Write). IsFrontOf front.writes w) (steps.writes_of-steps_of writes) front.front in
        let all : now ≡ all_written (earlier_writes command ++ front.writes) held = front.is ∙ sym (all_written-append (earlier_writes command) front.writes held) in
        record {
          writes = earlier_writes command ++ front.writes;
          may = a_front first lists is.said gives is_run ready starts under_way (front_of_late (earlier_writes command) front.writes writes of_run)
              (subst (λ (files : Files). Left (plan_of plan) first lists is.said begun files) all
              (left_so plan given.journal first lists part under_way is begun now left));
          is = all;
        }

    acted_written : {t : Aim} {plan : Plan} {calls : List Call} {verdict : Verdict} → aim_of command ≡ t → Acts plan given.from given.journal t calls verdict → IsReady given.s_define given.input plan → AllLeave calls begun now → HasWritten held now
    acted_written is checked ready left = texts_written left
    acted_written is listed ready left = texts_written left
    acted_written is no_memory ready left = texts_written left
    acted_written is (unloaded same why) ready left = texts_written left
    acted_written is (no_journal first starts same why) ready left = texts_written left
    acted_written {plan = plan} is (ran first lists starts whole) ready left = whole_written (all_writes plan first lists) (of_whole first lists gives is ready starts whole) left
    acted_written {plan = plan} is (misfits first told starts same misfit) ready left = whole_written (short_writes plan first told) (of_misfit gives is ready starts same misfit) left
    acted_written is (not_written first lists starts under_way part failed) ready left = part_written first lists _ is ready starts under_way part left
    acted_written is (no_memory_to_write first lists starts under_way part none) ready left = part_written first lists _ is ready starts under_way part left

    performed_written : {t : Aim} {calls : List Call} {verdict : Verdict} → aim_of command ≡ t → Performed t given calls verdict → AllLeave calls begun now → HasWritten held now
    performed_written is (text_refused refused) left = texts_written left
    performed_written is (plan_refused refused) left = texts_written left
    performed_written is not_understood left = texts_written left
    performed_written is (acted ready acts) left = acted_written is acts ready left

  -- a generated simulation
  generated_written : (objects : ℕ) {calls : List Call} {verdict : Verdict} (held now : Files) → Generates objects calls verdict → Asks words (commands.Gen objects) → AllLeave calls held now → HasWritten held now
  generated_written objects held now (texts_not_written part failed) asks left = texts_part objects held now _ asks part left
  generated_written objects held now (no_memory_for_texts part none) asks left = texts_part objects held now _ asks part left
  generated_written objects held now (texts_run calls performed) asks left =
      performed_written (commands.Gen objects) (texts_generated asks) held now refl performed (leave_steps (text_writes objects) calls held now left)

  pub stands : (verdict : Verdict) (wanted : Wanted) {calls : List Call} → Outcome wanted calls verdict
      → IsWanted words wanted → Went shelf old new calls → Stands shelf old new words
  stands verdict Unknown (none, is) wanted went files told =
      let left = went.went.left files told in
      ([], nothing, left.1 ∙ ap Some (subst (λ c. AllLeave c files left.0) none left.2))
  stands verdict Nothing (none, is) wanted went files told =
      let left = went.went.left files told in
      ([], nothing, left.1 ∙ ap Some (subst (λ c. AllLeave c files left.0) none left.2))
  stands verdict (Asked (commands.Texts about)) (unread is) wanted went files told =
      let left = went.went.left files told in
      ([], nothing, left.1 ∙ ap Some (unread_same files left.0 is left.2))
  stands verdict (Asked (commands.Texts about)) (gone_on found calls named goes) wanted went files told =
      let left = went.went.left files told in
      let after = leave_reads found calls files left.0 left.2 in
      let held : map (get files) (names_of about) ≡ map Some (texts_of goes.given) = ap (map (get files)) named ∙ after.0 ∙ ap (map Some) goes.are in
      let finds : Finds shelf old words about (map Some (texts_of goes.given)) = record { asks = wanted; files = files; told = told; held = held } in
      let done = performed_written (commands.Texts about) (files_held goes.named finds) files left.0 refl goes.performed after.1 in
      (done.writes, done.may, left.1 ∙ ap Some done.is)
  stands verdict (Asked (commands.Gen objects)) generates wanted went files told =
      let left = went.went.left files told in
      let done = generated_written objects files left.0 generates wanted left.2 in
      (done.writes, done.may, left.1 ∙ ap Some done.is)

  -- a refusal leaves all as it was
  pub usage_same : Says shelf old new words Usage → HoldsSame (shelf.holds old) (shelf.holds new)
  usage_same says files told = (let left = says.1.went.left files told in left.1 ∙ ap Some left.2)

  pub missing_same : (name : List ℕ) → Says shelf old new words (NoFile name) → HoldsSame (shelf.holds old) (shelf.holds new)
  missing_same name says files told =
      let left = says.went.went.left files told in
      let after = (leave_reads says.files _ files left.0 left.2).1 in
      left.1 ∙ ap Some (after.2 ∙ after.1.1)

  -- after the texts were there nothing was called
  reads_same : (command : Command) (given : Sources) → Reads shelf old new words command given [] → (files : Files) → shelf.holds old ≡ Some files
      → shelf.holds new ≡ Some (all_written (earlier_writes command) files)
  reads_same command given reads files told =
      let left = reads.went.went.left files told in
      left.1 ∙ ap Some (leave_earlier command [] files left.0 reads.come left.2)

  -- the texts were those of two files
  files_same : (command : Command) (given : Sources) → AskForFiles words → Reads shelf old new words command given [] → HoldsSame (shelf.holds old) (shelf.holds new)
  files_same (commands.Texts about) given never reads = reads_same (commands.Texts about) given reads
  files_same (commands.Gen objects) given never reads = absurd (never objects reads.asks)

  -- the texts were those of a generated simulation
  made_texts : (objects : ℕ) (command : Command) (given : Sources) → command ≡ commands.Gen objects → Reads shelf old new words command given [] → HoldsTexts objects (shelf.holds old) (shelf.holds new)
  made_texts objects command given is reads files told =
      reads_same command given reads files told ∙ ap (λ (r : Command). Some (all_written (earlier_writes r) files)) is

  pub text_same : (line : List ℕ) → AskForFiles words → Says shelf old new words (TextRefused line) → HoldsSame (shelf.holds old) (shelf.holds new)
  text_same line never says = files_same says.command says.given never says.reads

  pub plan_same : (line : List ℕ) → AskForFiles words → Says shelf old new words (PlanRefused line) → HoldsSame (shelf.holds old) (shelf.holds new)
  plan_same line never says = files_same says.command says.given never says.reads

  module _ (objects : ℕ) (alone : (command : Command) → Asks words command → command ≡ commands.Gen objects) (line : List ℕ) where
    pub text_made : Says shelf old new words (TextRefused line) → HoldsTexts objects (shelf.holds old) (shelf.holds new)
    text_made says = made_texts objects says.command says.given (alone says.command says.reads.asks) says.reads

    pub plan_made : Says shelf old new words (PlanRefused line) → HoldsTexts objects (shelf.holds old) (shelf.holds new)
    plan_made says = made_texts objects says.command says.given (alone says.command says.reads.asks) says.reads
