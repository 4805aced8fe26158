-- What the verdict of a row says.
use Rattle.std.proofs.Common.{◌≡◌, ℕ, List, ◌++◌, None, Option, Some, refl, sym, ◌∙◌, ap, subst}
use Rattle.std.specs.FinMap.{get}
use Rattle.trick_base.proofs.ContentLemmas.{get-all_written}
use Rattle.trick_base.specs.Content.{content}
use Rattle.trick_base.specs.Files.{Files, Write, all_written}
use Rattle.trick_model.specs.State.{State}
use Rattle.trick_model.specs.declared.entry.Entry.{Entry}
use Rattle.trick_model.specs.declared.journal.Journal.{Journal}
use Rattle.trick_model.specs.declared.plan.Plan.{Plan}
use Rattle.trick_outside.proofs.WriteLemmas.{all_done}
use Rattle.trick_outside.specs.Calls.{AllLeave, Call}
use Rattle.trick_outside.specs.Does.{Went}
use Rattle.trick_outside.specs.declared.shelf.Shelf.{Ghosts}
use Rattle.trick_top_texts.specs.Texts.{IsReady}
use Rattle.trick_exec_tic.proofs.StepLemmas as steps
use Rattle.trick_exec_tic.specs.Steps.{steps_of}
use Rattle.trick_top_alone.proofs.CompleteLemmas.{not_check, not_list}
use Rattle.trick_top_alone.proofs.FoundLemmas.{leave_reads, leave_steps}
use Rattle.trick_top_alone.proofs.OutcomeLemmas.{faults}
use Rattle.trick_top_alone.specs.Acts.{Acts, all_writes, checked, listed, misfits, no_journal, no_memory, no_memory_to_write, not_written, ran, run_steps, unloaded}
use Rattle.trick_top_alone.specs.First.{IsFirst}
use Rattle.trick_top_alone.specs.Found.{reads}
use Rattle.trick_top_alone.specs.Generated.{text_steps, text_writes}
use Rattle.trick_top_alone.specs.Outcome.{Generates, Outcome, Performed, Unread, acted, gone_on, missing, no_memory_for_texts, no_memory_to_read, not_read, not_understood, plan_refused, text_refused, texts_not_written, texts_run, unread}
use Rattle.trick_top_alone.specs.Runs.{IsMisfit, IsWholeRun, short_steps, short_writes}
use Rattle.trick_top_alone.specs.Sources.{Sources}
use Rattle.trick_top_alone.specs.Status.{Come, Misfits, Reads, RunsToEnd, Says, earlier_writes, files_found, of_checkpoint, of_journal, of_text, texts_made}
use Rattle.trick_top_alone.specs.Verdict.{ShelfFault, Verdict, with_objects}
use Rattle.trick_top_alone.specs.Words.{Asked, Asks, IsWanted, Nothing, Unknown, Wanted, Words, names_of, aim_of, aim_of_task}
use Rattle.trick_top_words.specs.declared.command.Texts.{Texts}
use Rattle.trick_top_words.specs.declared.command.Command.TheVariants as commands
use Rattle.trick_top_words.specs.declared.command.Command.{Command}
use Rattle.trick_top_alone.specs.Aims as aim
use Rattle.trick_top_alone.specs.Aims.{Aim}

-- what is held after writes that are all done
pub written_by : (writes : List Write) (before now : Files) → AllLeave (steps_of writes) before now → now ≡ all_written writes before
written_by writes before now left = all_done (steps_of writes) before now (steps.all_done writes) left ∙ ap (λ (w : List Write). all_written w before) (steps.writes_of-steps_of writes)

-- what they make of each file
files_of : (writes : List Write) (before now : Files) → AllLeave (steps_of writes) before now → (name : List ℕ) → get now name ≡ content name writes (get before name)
files_of writes before now left name = ap (λ (f : Files). get f name) (written_by writes before now left) ∙ get-all_written name writes before

-- what the calls left by which the texts came, and what later calls left of that
pub leave_earlier : (command : Command) {given : Sources} {earlier : List Call} (calls : List Call) (held now : Files) → Come command given earlier
    → AllLeave (earlier ++ calls) held now → AllLeave calls (all_written (earlier_writes command) held) now
leave_earlier (commands.Texts about) calls held now (files_found files named kinds are) left = (leave_reads files calls held now left).1
leave_earlier (commands.Gen objects) calls held now texts_made left = leave_steps (text_writes objects) calls held now left

-- a generated simulation has no journal
no_journal_made : (objects : ℕ) {given : Sources} {calls : List Call} → Come (commands.Gen objects) given calls → given.journal ≡ None
no_journal_made objects texts_made = refl

no_text : {journal : Option (List ℕ)} {text : List ℕ} → journal ≡ None → journal ≡ Some text → ⊥
no_text none some = let clash = sym none ∙ some in cc

module _ {S : Type 0} (shelf : Ghosts S) (old new : S) (words : Words) where
  -- a run that is done
  ran_says : (command : Command) {given : Sources} {plan : Plan} (first : State) (lists : List (List Entry)) → aim_of command ≡ aim.Run → IsFirst plan given.from first → IsWholeRun plan given.journal first lists
      → IsReady given.s_define given.input plan → Reads shelf old new words command given (run_steps plan first lists) → RunsToEnd shelf old new words command plan first lists
  ran_says command {given = given} {plan = plan} first lists is_run starts whole ready reads = record {
    is_run = is_run;
    given = given;
    reads = reads;
    ready = ready;
    starts = starts;
    whole = whole;
    files = λ before told.
        let left = reads.went.went.left before told in
        let after = leave_earlier command (run_steps plan first lists) before left.0 reads.come left.2 in
        (left.0, left.1, files_of (all_writes plan first lists) (all_written (earlier_writes command) before) left.0 after);
  }

  -- a journal that does not fit
  misfit_says : (about : Texts) {given : Sources} {plan : Plan} (first : State) (journal : Journal) (text : List ℕ) → aim_of_task about.task ≡ aim.Run → IsFirst plan given.from first → given.journal ≡ Some text
      → IsMisfit plan text first journal → IsReady given.s_define given.input plan → Reads shelf old new words (commands.Texts about) given (short_steps plan first journal) → Misfits shelf old new words plan first journal
  misfit_says about {given = given} {plan = plan} first journal text is_run starts replays misfit ready reads = record {
    about = about;
    is_run = is_run;
    given = given;
    reads = reads;
    ready = ready;
    starts = starts;
    text = text;
    replays = replays;
    misfit = misfit;
    files = λ before told.
        let left = reads.went.went.left before told in
        let after = leave_earlier (commands.Texts about) (short_steps plan first journal) before left.0 reads.come left.2 in
        (left.0, left.1, files_of (short_writes plan first journal) before left.0 after);
  }

  -- what is done with the texts in named files
  acted_says : (about : Texts) {t : Aim} {given : Sources} {plan : Plan} {calls : List Call} {verdict : Verdict} → aim_of_task about.task ≡ t → Acts plan given.from given.journal t calls verdict → IsReady given.s_define given.input plan
      → Reads shelf old new words (commands.Texts about) given calls → (verdict ≡ ShelfFault → Says shelf old new words ShelfFault) → Says shelf old new words verdict
  acted_says about {given = given} {plan = plan} is checked ready reads fault = (plan, record { about = about; is_look = is; given = given; reads = reads; ready = ready }, refl)
  acted_says about {given = given} {plan = plan} is listed ready reads fault = (plan, record { about = about; is_look = is; given = given; reads = reads; ready = ready }, refl)
  acted_says about is no_memory ready reads fault = tt
  acted_says about {given = given} is (unloaded same why) ready reads fault = record { command = commands.Texts about; given = given; reads = reads; refuses = of_checkpoint is ready same why }
  acted_says about {given = given} is (no_journal first starts same why) ready reads fault =
      record { command = commands.Texts about; given = given; reads = reads; refuses = of_journal is ready starts same why }
  acted_says about {plan = plan} is (misfits first told {text = text} starts same misfit) ready reads fault =
      (plan, first, told, misfit_says about first told text is starts same misfit ready reads, refl)
  acted_says about {plan = plan} is (ran first lists starts whole) ready reads fault = (commands.Texts about, plan, first, lists, ran_says (commands.Texts about) first lists is starts whole ready reads, refl)
  acted_says about is (not_written first lists starts under_way part failed) ready reads fault = fault refl
  acted_says about is (no_memory_to_write first lists starts under_way part none) ready reads fault = tt

  performed_says : (about : Texts) {given : Sources} {calls : List Call} {verdict : Verdict} → Performed (aim_of_task about.task) given calls verdict
      → Reads shelf old new words (commands.Texts about) given calls → (verdict ≡ ShelfFault → Says shelf old new words ShelfFault) → Says shelf old new words verdict
  performed_says about {given = given} (text_refused is) reads fault = record { command = commands.Texts about; given = given; reads = reads; refuses = of_text is }
  performed_says about {given = given} (plan_refused is) reads fault = record { command = commands.Texts about; given = given; reads = reads; refuses = is }
  performed_says about not_understood reads fault = tt
  performed_says about (acted ready acts) reads fault = acted_says about refl acts ready reads fault

  -- what is done with the texts of a generated simulation
  acted_generated_says : (objects : ℕ) {t : Aim} {given : Sources} {plan : Plan} {calls : List Call} {verdict : Verdict} → t ≡ aim.Run → Acts plan given.from given.journal t calls verdict → IsReady given.s_define given.input plan
      → Reads shelf old new words (commands.Gen objects) given calls → (verdict ≡ ShelfFault → Says shelf old new words ShelfFault) → Says shelf old new words (with_objects objects verdict)
  acted_generated_says objects is checked ready reads fault = absurd (not_check is)
  acted_generated_says objects is listed ready reads fault = absurd (not_list is)
  acted_generated_says objects is no_memory ready reads fault = tt
  acted_generated_says objects {given = given} is (unloaded same why) ready reads fault = record { command = commands.Gen objects; given = given; reads = reads; refuses = of_checkpoint refl ready same why }
  acted_generated_says objects {given = given} is (no_journal first starts same why) ready reads fault =
      record { command = commands.Gen objects; given = given; reads = reads; refuses = of_journal refl ready starts same why }
  acted_generated_says objects is (misfits first told starts same misfit) ready reads fault =
      let none = no_journal_made objects reads.come in absurd (no_text none same)
  acted_generated_says objects {plan = plan} is (ran first lists starts whole) ready reads fault =
      (commands.Gen objects, plan, first, lists, ran_says (commands.Gen objects) first lists refl starts whole ready reads, refl)
  acted_generated_says objects is (not_written first lists starts under_way part failed) ready reads fault = fault refl
  acted_generated_says objects is (no_memory_to_write first lists starts under_way part none) ready reads fault = tt

  performed_generated_says : (objects : ℕ) {given : Sources} {calls : List Call} {verdict : Verdict} → Performed aim.Run given calls verdict
      → Reads shelf old new words (commands.Gen objects) given calls → (verdict ≡ ShelfFault → Says shelf old new words ShelfFault) → Says shelf old new words (with_objects objects verdict)
  performed_generated_says objects {given = given} (text_refused is) reads fault = record { command = commands.Gen objects; given = given; reads = reads; refuses = of_text is }
  performed_generated_says objects {given = given} (plan_refused is) reads fault = record { command = commands.Gen objects; given = given; reads = reads; refuses = is }
  performed_generated_says objects not_understood reads fault = tt
  performed_generated_says objects (acted ready acts) reads fault = acted_generated_says objects refl acts ready reads fault

  generated_says : (objects : ℕ) {calls : List Call} {verdict : Verdict} → Generates objects calls verdict → Asks words (commands.Gen objects) → Went shelf old new calls
      → (verdict ≡ ShelfFault → Says shelf old new words ShelfFault) → Says shelf old new words verdict
  generated_says objects (texts_not_written part failed) asks went fault = fault refl
  generated_says objects (no_memory_for_texts part none) asks went fault = tt
  generated_says objects (texts_run calls performed) asks went fault =
      performed_generated_says objects performed (record { asks = asks; earlier = text_steps objects; come = texts_made; went = went }) (λ is. fault (ap (with_objects objects) is))

  unread_says : (about : Texts) {calls : List Call} {verdict : Verdict} → Unread (names_of about) calls verdict → Asks words (commands.Texts about) → Went shelf old new calls
      → (verdict ≡ ShelfFault → Says shelf old new words ShelfFault) → Says shelf old new words verdict
  unread_says about (missing files name others named) asks went fault =
      record { about = about; asks = asks; files = files; others = others; named = named; went = went }
  unread_says about (not_read files name others named) asks went fault = fault refl
  unread_says about (no_memory_to_read files name others named) asks went fault = tt

  -- each verdict's own words
  pub says : (verdict : Verdict) (wanted : Wanted) {calls : List Call} → Outcome wanted calls verdict
      → IsWanted words wanted → Went shelf old new calls → Says shelf old new words verdict
  says verdict Unknown (none, is) wanted went = rw is tt
  says verdict Nothing (none, is) wanted went = rw is (wanted, subst (λ c. Went shelf old new c) none went)
  says verdict (Asked (commands.Texts about)) (unread is) wanted went =
      unread_says about is wanted went
      (λ fault. went.went.cause.failed ((faults (Asked (commands.Texts about)) _ _ (unread is)).back fault))
  says verdict (Asked (commands.Texts about)) (gone_on files calls named goes) wanted went =
      performed_says about goes.performed
      (record { asks = wanted; earlier = reads files; come = files_found files named goes.named goes.are; went = went })
      (λ fault. went.went.cause.failed ((faults (Asked (commands.Texts about)) _ _ (gone_on files calls named goes)).back fault))
  says verdict (Asked (commands.Gen objects)) generates wanted went =
      generated_says objects generates wanted went
      (λ fault. went.went.cause.failed ((faults (Asked (commands.Gen objects)) _ _ generates).back fault))
