-- Which row it is, where the shelf tells what it holds and no call failed.
use Rattle.std.proofs.Common.{◌≡◌, ℕ, zero, suc, List, ◌∷◌, ◌++◌, None, Some, inl, inr, refl, sym, ◌∙◌, ap, subst, map, Contains, true}
use Rattle.std.specs.FinMap.{get}
use Rattle.std.specs.Prelude.{◌⊎◌, Option}
use Rattle.trick_base.specs.Files.{Files}
use Rattle.trick_model.specs.State.{State}
use Rattle.trick_model.specs.declared.journal.Journal.{Journal}
use Rattle.trick_model.specs.declared.plan.Plan.{Plan}
use Rattle.trick_outside.proofs.CallLemmas.{fails-late}
use Rattle.trick_outside.specs.Calls.{AllLeave, Call, fails}
use Rattle.trick_top_texts.specs.Meaning.{HaveOneMeaning}
use Rattle.trick_top_texts.specs.Texts.{IsPlanRefused, IsReady, IsTextRefused}
use Rattle.trick_top_alone.proofs.FoundLemmas.{in_the_midst, lacks_none, leave_reads, reads_quiet, same_texts}
use Rattle.trick_top_alone.proofs.OutcomeLemmas.{faults, steps_quiet}
use Rattle.trick_chkpt_state.specs.Loaded.{IsCheckpointOf}
use Rattle.trick_top_alone.specs.Acts.{Acts, checked, last_state, listed, misfits, no_journal, no_memory, no_memory_to_write, not_written, ran, unloaded}
use Rattle.trick_top_alone.specs.First.{IsFirst, IsLoadedFrom}
use Rattle.trick_top_alone.specs.Found.{names, reads, texts}
use Rattle.trick_top_alone.specs.Generated.{text_steps, text_writes}
use Rattle.trick_top_alone.specs.Outcome.{Generates, Goes, GoesOn, Outcome, Performed, acted, gone_on, missing, no_memory_for_texts, no_memory_to_read}
use Rattle.trick_top_alone.specs.Outcome.{not_read, not_understood, plan_refused, text_refused, texts_not_written, texts_run, unread}
use Rattle.trick_top_alone.specs.Runs.{IsFitting, IsJournalFor, IsWholeRun, IsWholeUnder}
use Rattle.trick_top_alone.specs.Sources.{Sources, generated_sources}
use Rattle.trick_top_alone.specs.Status.{AreAccepted, AreRefusedTexts, IsFittingIn, IsMisfitIn, for_checkpoint, for_journal, for_text}
use Rattle.trick_top_alone.specs.Verdict.{Usage, Verdict, ended_status, status_of, with_objects}
use Rattle.trick_top_alone.specs.Words.{AreRefused, Asked, Asks, IsWanted, Nothing, Unknown, Wanted, Words, names_of}
use Rattle.trick_top_words.specs.declared.command.Texts.{Texts}
use Rattle.trick_top_words.specs.declared.command.Command.TheVariants as commands
use Rattle.trick_top_words.specs.declared.command.Command.{Command}
use Rattle.trick_top_alone.specs.Aims as aim
use Rattle.trick_top_alone.specs.Aims.{Aim}
use Rattle.trick_top_words.specs.Command as lines

-- words are one line at most
abbrev pub AreOneLine : Type 0
AreOneLine = (words : List (List ℕ)) (first second : Command)
    → lines.Asks words first → lines.Asks words second → first ≡ second

module _ (once : AreOneLine) (words : Words) where
  -- words that ask for something ask for nothing else
  pub same_asked : (command other : Command) → Asks words command → Asks words other → command ≡ other
  same_asked command other asks is = once words.said command other asks.asked is.asked

  -- words that ask for something go as this, where there was memory to read them
  pub asked_goes : (wanted : Wanted) (calls : List Call) (verdict : Verdict) → IsWanted words wanted
      → Outcome wanted calls verdict → (command : Command) → Asks words command
      → Outcome (Asked command) calls verdict ⊎ (status_of verdict ≡ 6)
  asked_goes Unknown calls verdict is (none, same) command asks = inr (ap status_of same)
  asked_goes Nothing calls verdict is outcome command asks = absurd (is command asks)
  asked_goes (Asked other) calls verdict is outcome command asks =
      inl (subst (λ r. Outcome (Asked r) calls verdict) (same_asked other command is asks) outcome)

-- words that ask for nothing are refused, where there was memory to read them
pub refused_usage : (words : Words) (wanted : Wanted) (calls : List Call) (verdict : Verdict)
    → IsWanted words wanted → AreRefused words → Outcome wanted calls verdict
    → (status_of verdict ≡ 1) ⊎ (status_of verdict ≡ 6)
refused_usage words Unknown calls verdict is refused (none, same) = inr (ap status_of same)
refused_usage words Nothing calls verdict is refused (none, same) = inl (ap status_of same)
refused_usage words (Asked command) calls verdict is refused outcome = absurd (refused command is)

module _ (about : Texts) (held now : Files) where
  -- a file is missing
  pub missing_ends : {calls : List Call} {verdict : Verdict} → Goes about calls verdict → (fails calls ≡ true → ⊥) → AllLeave calls held now
      → Contains (map (get held) (names_of about)) None → (status_of verdict ≡ 9) ⊎ (status_of verdict ≡ 6)
  missing_ends (unread (missing files name others named)) never left lacks = inl refl
  missing_ends (unread (not_read files name others named)) never left lacks = absurd (never ((faults (Asked (commands.Texts about)) _ _ (unread (not_read files name others named))).back refl))
  missing_ends (unread (no_memory_to_read files name others named)) never left lacks = inr refl
  missing_ends (gone_on files calls named goes) never left lacks =
      let all : map (get held) (names_of about) ≡ map Some (texts files) = ap (map (get held)) named ∙ (leave_reads files calls held now left).0 in
      absurd (lacks_none (texts files) (subst (λ list. Contains list None) all lacks))

  -- all files are there, so it goes on with their texts
  pub found_goes : {calls : List Call} {verdict : Verdict} (given : List (List ℕ)) → Goes about calls verdict → (fails calls ≡ true → ⊥) → AllLeave calls held now
      → map (get held) (names_of about) ≡ map Some given → ((late : List Call) × GoesOn about given late verdict × (fails late ≡ true → ⊥)) ⊎ (status_of verdict ≡ 6)
  found_goes given (unread (missing files name others named)) never left all =
      let none = (leave_reads files _ held now left).1.1.0 in
      let lacks : Contains (map (get held) (names files ++ name ∷ others)) None = in_the_midst (get held) (names files) name others none in
      absurd (lacks_none given (subst (λ list. Contains list None) (ap (map (get held)) (sym named) ∙ all) lacks))
  found_goes given (unread (not_read files name others named)) never left all = absurd (never ((faults (Asked (commands.Texts about)) _ _ (unread (not_read files name others named))).back refl))
  found_goes given (unread (no_memory_to_read files name others named)) never left all = inr refl
  found_goes {verdict = verdict} given (gone_on files calls named goes) never left all =
      let same : texts files ≡ given = same_texts (texts files) given (sym (leave_reads files calls held now left).0 ∙ ap (map (get held)) (sym named) ∙ all) in
      inl (calls, subst (λ texts. GoesOn about texts calls verdict) same goes, λ e. never (fails-late (reads files) calls (reads_quiet files) ∙ e))

-- what a status says that is that of a run or a look that came to its end
abbrev pub IsEnd : Aim → ℕ → Type 0
IsEnd t status = (status ≡ 0) ⊎ (((status ≡ 4) × (t ≡ aim.Run)) ⊎ (status ≡ 6))

-- the tasks that are no run
pub not_check : aim.Check ≡ aim.Run → ⊥
not_check is = cc

pub not_list : aim.List ≡ aim.Run → ⊥
not_list is = cc

pub ended_is_end : (faults : ℕ) → IsEnd aim.Run (ended_status faults)
ended_is_end zero = inl refl
ended_is_end (suc faults) = inr (inl (refl, refl))

-- a whole run under the text of a journal
whole_under : (plan : Plan) (journal : Option (List ℕ)) (first : State) (lists : _) (text : List ℕ) → journal ≡ Some text → IsWholeRun plan journal first lists → IsWholeUnder plan text first lists
whole_under plan journal first lists text is whole = subst (λ (j : Option (List ℕ)). IsWholeRun plan j first lists) is whole

-- a run goes on from a text that is the checkpoint of no state
pub not_run : (plan : Plan) (from : Option (List ℕ)) (first : State) (text : List ℕ) → from ≡ Some text → ((s : State) → IsCheckpointOf plan text s → ⊥) → IsFirst plan from first → ⊥
not_run plan from first text is none starts = none first (let loaded : IsLoadedFrom plan text first = subst (λ f. IsFirst plan f first) is starts in loaded.is)

-- one text of a journal
one_text : {journal : Option (List ℕ)} {text other : List ℕ} → journal ≡ Some text → journal ≡ Some other → other ≡ text
one_text is also = let same = sym is ∙ also in cc

module _ {plan : Plan} {from journal : Option (List ℕ)} where
  -- the text to go on from is the checkpoint of no state
  acted_unloaded : {t : Aim} {calls : List Call} {verdict : Verdict} → (fails calls ≡ true → ⊥) → t ≡ aim.Run → (text : List ℕ) → from ≡ Some text
      → ((s : State) → IsCheckpointOf plan text s → ⊥) → Acts plan from journal t calls verdict → (status_of verdict ≡ 2) ⊎ (status_of verdict ≡ 6)
  acted_unloaded never run text is none checked = absurd (not_check run)
  acted_unloaded never run text is none listed = absurd (not_list run)
  acted_unloaded never run text is none no_memory = inr refl
  acted_unloaded never run text is none (unloaded same why) = inl refl
  acted_unloaded never run text is none (no_journal first starts same why) = inl refl
  acted_unloaded never run text is none (ran first lists starts whole) = absurd (not_run plan from first text is none starts)
  acted_unloaded never run text is none (misfits first told starts same misfit) = absurd (not_run plan from first text is none starts)
  acted_unloaded never run text is none (not_written first lists starts under_way part fault) = absurd (never fault)
  acted_unloaded never run text is none (no_memory_to_write first lists starts under_way part quiet) = inr refl

  -- the text to run under is no journal
  acted_unread : {t : Aim} {calls : List Call} {verdict : Verdict} → (fails calls ≡ true → ⊥) → t ≡ aim.Run → (text : List ℕ) → journal ≡ Some text
      → ((first : State) (told : Journal) → IsFirst plan from first → IsJournalFor plan first text told → ⊥) → Acts plan from journal t calls verdict → (status_of verdict ≡ 2) ⊎ (status_of verdict ≡ 6)
  acted_unread never run text is none checked = absurd (not_check run)
  acted_unread never run text is none listed = absurd (not_list run)
  acted_unread never run text is none no_memory = inr refl
  acted_unread never run text is none (unloaded same why) = inl refl
  acted_unread never run text is none (no_journal first starts same why) = inl refl
  acted_unread never run text is none (ran first lists starts whole) =
      let under = whole_under plan journal first lists text is whole in
      absurd (none first under.journal starts under.is)
  acted_unread never run text is none (misfits first told starts same misfit) =
      absurd (none first told starts (subst (λ (x : List ℕ). IsJournalFor plan first x told) (one_text is same) misfit.is))
  acted_unread never run text is none (not_written first lists starts under_way part fault) = absurd (never fault)
  acted_unread never run text is none (no_memory_to_write first lists starts under_way part quiet) = inr refl

  -- texts that are a checkpoint and a journal
  module _ (loaded : (text : List ℕ) → from ≡ Some text → (s : State) × IsCheckpointOf plan text s)
      (read : (first : State) (text : List ℕ) → IsFirst plan from first → journal ≡ Some text → (told : Journal) × IsJournalFor plan first text told) where
    -- what is done with an accepted plan comes to its end, where the journal fits
    acted_ends : {t : Aim} {calls : List Call} {verdict : Verdict} → (fails calls ≡ true → ⊥) → ((first : State) (text : List ℕ) (told : Journal) → IsFirst plan from first → journal ≡ Some text → IsJournalFor plan first text told → IsFitting plan first told)
        → Acts plan from journal t calls verdict → IsEnd t (status_of verdict)
    acted_ends never fits checked = inl refl
    acted_ends never fits listed = inl refl
    acted_ends never fits no_memory = inr (inr refl)
    acted_ends never fits (unloaded {text = text} is why) = let of = loaded text is in absurd (why.none of.0 of.1)
    acted_ends never fits (no_journal first {text = text} starts is why) = let of = read first text starts is in absurd (why.none of.0 of.1)
    acted_ends never fits (ran first lists starts whole) = ended_is_end ((last_state plan first lists).faults).count
    acted_ends never fits (misfits first told {text = text} starts is misfit) = absurd (misfit.misfit (fits first text told starts is misfit.is))
    acted_ends never fits (not_written first lists starts under_way part fault) = absurd (never fault)
    acted_ends never fits (no_memory_to_write first lists starts under_way part none) = inr (inr refl)

    -- and where it does not fit
    acted_misfits : {t : Aim} {calls : List Call} {verdict : Verdict} → (fails calls ≡ true → ⊥) → t ≡ aim.Run → (text : List ℕ) → journal ≡ Some text
        → ((first : State) (told : Journal) → IsFirst plan from first → IsJournalFor plan first text told → IsFitting plan first told → ⊥)
        → Acts plan from journal t calls verdict → (status_of verdict ≡ 7) ⊎ (status_of verdict ≡ 6)
    acted_misfits never run text is none checked = absurd (not_check run)
    acted_misfits never run text is none listed = absurd (not_list run)
    acted_misfits never run text is none no_memory = inr refl
    acted_misfits never run text is none (unloaded {text = other} same why) = let of = loaded other same in absurd (why.none of.0 of.1)
    acted_misfits never run text is none (no_journal first {text = other} starts same why) = let of = read first other starts same in absurd (why.none of.0 of.1)
    acted_misfits never run text is none (ran first lists starts whole) =
        let under = whole_under plan journal first lists text is whole in
        absurd (none first under.journal starts under.is under.fits)
    acted_misfits never run text is none (misfits first told starts same misfit) = inl refl
    acted_misfits never run text is none (not_written first lists starts under_way part fault) = absurd (never fault)
    acted_misfits never run text is none (no_memory_to_write first lists starts under_way part quiet) = inr refl

-- what texts say is one thing
module _ (one : (s_define input : List ℕ) → HaveOneMeaning s_define input) {t : Aim} {given : Sources} where
  -- the texts have an accepted plan, and their journal fits, so it comes to its end
  pub accepted_ends : {calls : List Call} {verdict : Verdict} → (fails calls ≡ true → ⊥) → AreAccepted given → IsFittingIn given → Performed t given calls verdict → IsEnd t (status_of verdict)
  accepted_ends never good fits (text_refused is) = absurd ((one given.s_define given.input).planned good.plan _ good.ready.planned is)
  accepted_ends never good fits (plan_refused is) = absurd ((one given.s_define given.input).accepted good.plan _ good.ready is)
  accepted_ends never good fits not_understood = inr (inr refl)
  accepted_ends never good fits (acted {plan = plan} ready acts) =
      acted_ends (λ text is. good.loaded plan text ready is) (λ first text starts is. good.read plan first text ready starts is) never
      (λ first text told starts is for. fits plan first text told ready starts is for) acts

  -- their journal does not fit
  pub misfit_ends : {calls : List Call} {verdict : Verdict} → (fails calls ≡ true → ⊥) → t ≡ aim.Run → AreAccepted given → IsMisfitIn given → Performed t given calls verdict → (status_of verdict ≡ 7) ⊎ (status_of verdict ≡ 6)
  misfit_ends never run good bad (text_refused is) = absurd ((one given.s_define given.input).planned good.plan _ good.ready.planned is)
  misfit_ends never run good bad (plan_refused is) = absurd ((one given.s_define given.input).accepted good.plan _ good.ready is)
  misfit_ends never run good bad not_understood = inr refl
  misfit_ends never run good bad (acted {plan = plan} ready acts) =
      acted_misfits (λ text is. good.loaded plan text ready is) (λ first text starts is. good.read plan first text ready starts is) never run bad.text bad.replays
      (λ first told starts for. bad.misfit plan first bad.text told ready starts bad.replays for) acts

  -- a text of the simulation is refused
  text_ends : {calls : List Call} {verdict : Verdict} → (line : List ℕ) → IsTextRefused given.s_define given.input line → Performed t given calls verdict → (status_of verdict ≡ 2) ⊎ (status_of verdict ≡ 6)
  text_ends line refused (text_refused is) = inl refl
  text_ends line refused (plan_refused is) = absurd ((one given.s_define given.input).planned is.plan line is.planned refused)
  text_ends line refused not_understood = inr refl
  text_ends line refused (acted {plan = plan} ready acts) = absurd ((one given.s_define given.input).planned plan line ready.planned refused)

  -- the text to go on from is no checkpoint
  unloaded_ends : {calls : List Call} {verdict : Verdict} → (fails calls ≡ true → ⊥) → (plan : Plan) (text : List ℕ) → t ≡ aim.Run → IsReady given.s_define given.input plan → given.from ≡ Some text
      → ((other : Plan) (s : State) → IsReady given.s_define given.input other → IsCheckpointOf other text s → ⊥) → Performed t given calls verdict → (status_of verdict ≡ 2) ⊎ (status_of verdict ≡ 6)
  unloaded_ends never plan text run ready is none (text_refused refused) = inl refl
  unloaded_ends never plan text run ready is none (plan_refused refused) = absurd ((one given.s_define given.input).accepted plan _ ready refused)
  unloaded_ends never plan text run ready is none not_understood = inr refl
  unloaded_ends never plan text run ready is none (acted {plan = other} now acts) = acted_unloaded never run text is (λ s. none other s now) acts

  -- the text to run under is no journal
  unread_ends : {calls : List Call} {verdict : Verdict} → (fails calls ≡ true → ⊥) → (plan : Plan) (text : List ℕ) → t ≡ aim.Run → IsReady given.s_define given.input plan → given.journal ≡ Some text
      → ((other : Plan) (first : State) (told : Journal) → IsReady given.s_define given.input other → IsFirst other given.from first → IsJournalFor other first text told → ⊥)
      → Performed t given calls verdict → (status_of verdict ≡ 2) ⊎ (status_of verdict ≡ 6)
  unread_ends never plan text run ready is none (text_refused refused) = inl refl
  unread_ends never plan text run ready is none (plan_refused refused) = absurd ((one given.s_define given.input).accepted plan _ ready refused)
  unread_ends never plan text run ready is none not_understood = inr refl
  unread_ends never plan text run ready is none (acted {plan = other} now acts) = acted_unread never run text is (λ first told starts for. none other first told now starts for) acts

  pub refused_ends : {calls : List Call} {verdict : Verdict} → (fails calls ≡ true → ⊥) → AreRefusedTexts t given → Performed t given calls verdict → (status_of verdict ≡ 2) ⊎ (status_of verdict ≡ 6)
  refused_ends never (for_text line refused) performed = text_ends line refused performed
  refused_ends never (for_checkpoint plan text run ready is none) performed = unloaded_ends never plan text run ready is none performed
  refused_ends never (for_journal plan text run ready is none) performed = unread_ends never plan text run ready is none performed

  -- the plan is refused
  pub bad_plan_ends : {calls : List Call} {verdict : Verdict} → (line : List ℕ) → IsPlanRefused given.s_define given.input line → Performed t given calls verdict → (status_of verdict ≡ 3) ⊎ (status_of verdict ≡ 6)
  bad_plan_ends line refused (text_refused is) = absurd ((one given.s_define given.input).planned refused.plan _ refused.planned is)
  bad_plan_ends line refused (plan_refused is) = inl refl
  bad_plan_ends line refused not_understood = inr refl
  bad_plan_ends line refused (acted {plan = plan} ready acts) = absurd ((one given.s_define given.input).accepted plan line ready refused)

-- the run of a generated simulation has the status of that of its texts
same_status : (objects : ℕ) (verdict : Verdict) → status_of (with_objects objects verdict) ≡ status_of verdict
same_status objects Usage = refl
same_status objects verdict = refl

-- What was done with the texts, by the status that it ended with.
pub record Done (t : Aim) (given : Sources) (status : ℕ) : Type 0 where
  pub late : List Call
  pub verdict : Verdict
  pub performed : Performed t given late verdict
  pub quiet : fails late ≡ true → ⊥
  pub is : status_of verdict ≡ status

-- a generated simulation is run, unless there was no memory for its texts
pub generated_goes : (objects : ℕ) {calls : List Call} {verdict : Verdict} → Generates objects calls verdict → (fails calls ≡ true → ⊥)
    → Done aim.Run (generated_sources objects) (status_of verdict) ⊎ (status_of verdict ≡ 6)
generated_goes objects (texts_not_written part fault) never = absurd (never fault)
generated_goes objects (no_memory_for_texts part none) never = inr refl
generated_goes objects (texts_run calls {verdict = verdict} performed) never =
    inl
    (record {
      late = calls;
      verdict = verdict;
      performed = performed;
      quiet = λ e. never (fails-late (text_steps objects) calls (steps_quiet (text_writes objects)) ∙ e);
      is = sym (same_status objects verdict);
    })
