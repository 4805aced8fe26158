-- What each clause says, of all words: as the call that waits for nobody, or as a run that began.
use Rattle.std.proofs.Common.{◌≡◌, ◌≢◌, ℕ, List, [], None, Option, inl, inr, ap, arith, subst, sym, Contains}
use Rattle.std.specs.Prelude.{◌⊎◌}
use Rattle.trick_model.specs.State.{State}
use Rattle.trick_model.specs.declared.journal.Journal.{Journal}
use Rattle.trick_model.specs.declared.plan.Plan.{Plan}
use Rattle.trick_outside.proofs.DoesLemmas.{Joins}
use Rattle.trick_outside.specs.Causes.{Rose}
use Rattle.trick_outside.specs.Does.{Went}
use Rattle.trick_outside.specs.declared.sink.Sink as sink
use Rattle.trick_top_texts.specs.Meaning.{HaveOneMeaning}
use Rattle.trick_top_texts.specs.Texts.{IsPlanRefused}
use Rattle.trick_serve.specs.Serving.{Moment, Outside}
use Rattle.trick_top_alone.proofs.CompleteLemmas.{AreOneLine, IsEnd}
use Rattle.trick_top_alone.proofs.GoneLemmas.{gone_unknown}
use Rattle.trick_top_alone.proofs.TellsLemmas.{not_known, not_run}
use Rattle.trick_top_alone.proofs.TopLemmas as top
use Rattle.trick_top_alone.specs.Acts.{length_verdict}
use Rattle.trick_top_alone.specs.Answered.{HasAnswered}
use Rattle.trick_top_alone.specs.Called.{HasCalled}
use Rattle.trick_top_alone.specs.Outcome.{HasGone}
use Rattle.trick_top_alone.specs.Printed.{Prints}
use Rattle.trick_top_alone.specs.Sources.{Sources}
use Rattle.trick_top_alone.specs.Status.{AreAccepted, AreRefusedTexts, EndsWith, Finds, Gives, HoldsSame, HoldsTexts, IsFittingIn, IsMisfitIn, IsRefusal, Misfits, MissesFile, RefusesPlan, RefusesText, TookLine}
use Rattle.trick_top_alone.specs.Verdict.{NoFile, OutOfMemory, PlanRefused, TextRefused, Usage, Verdict, line_of}
use Rattle.trick_top_alone.specs.Words.{AreRefused, Asks, AsksNoRun, AsksToRun, Unknown, aim_of, with_run, without_run}
use Rattle.trick_top_words.specs.declared.command.Texts.{Texts}
use Rattle.trick_top_words.specs.declared.command.Command.TheVariants as commands
use Rattle.trick_top_words.specs.declared.command.Command.{Command}
use Rattle.trick_top_alone.specs.Aims as aim
use Rattle.trick_top.proofs.RanLemmas as ran
use Rattle.trick_top.proofs.RowLemmas.{Early, Ran, row_cases}
use Rattle.trick_top.specs.Answers.{Answers, AnswersRun, alone, by_row}
use Rattle.trick_top.specs.Rows.{ServesWords, asked, no_memory_to_serve}

module _ {F D I O S K : Type 0} {o : Outside F D I O S} {failures : D → ℕ} {sink : sink.Ghosts K} {words : List (List ℕ)} {old new : Moment F D S}
    {before now : K} {status : ℕ} (once : AreOneLine) (one : (s_define input : List ℕ) → HaveOneMeaning s_define input)
    (none : (s : F) → o.shelf.called s [] s) (join : Joins o.shelf) (answers : Answers o failures sink words old new before now status) where
  -- ---- words that ask to run nothing

  -- there was no memory to read them
  unread_alone : new ≡ old → Prints sink before now OutOfMemory status → HasAnswered o.shelf sink old.shelf new.shelf before now (without_run words) status
  unread_alone same prints =
      let shelf : new.shelf ≡ old.shelf = ap (λ (m : Moment F D S). m.shelf) same in
      let gone = subst (λ (s : F). HasGone o.shelf old.shelf s Unknown OutOfMemory) (sym shelf) (gone_unknown {shelf = o.shelf} old.shelf (none old.shelf)) in
      not_known (without_run words) status gone prints

  row_alone : AsksNoRun words → (row : AnswersRun o failures sink words old new before now status)
      → HasAnswered o.shelf sink old.shelf new.shelf before now (without_run words) status × (new.door ≡ old.door) × (new.spawner ≡ old.spawner)
  row_alone never row = by row.serves row.prints
    where
      by : {verdict : Verdict} → ServesWords o failures words old new verdict → Prints sink before now verdict status
          → HasAnswered o.shelf sink old.shelf new.shelf before now (without_run words) status × (new.door ≡ old.door) × (new.spawner ≡ old.spawner)
      by (no_memory_to_serve same) prints = (unread_alone same prints, ap (λ (m : Moment F D S). m.door) same, ap (λ (m : Moment F D S). m.spawner) same)
      by (asked asks serves) prints = absurd (never _ asks)

  alone_cases : AsksNoRun words → HasAnswered o.shelf sink old.shelf new.shelf before now (without_run words) status × (new.door ≡ old.door) × (new.spawner ≡ old.spawner)
  alone_cases never = by answers
    where
      by : Answers o failures sink words old new before now status
          → HasAnswered o.shelf sink old.shelf new.shelf before now (without_run words) status × (new.door ≡ old.door) × (new.spawner ≡ old.spawner)
      by (alone asks row door spawner) = (row, door, spawner)
      by (by_row row) = row_alone never row

  pub answered_alone : AsksNoRun words → HasAnswered o.shelf sink old.shelf new.shelf before now (without_run words) status
  answered_alone never = (alone_cases never).0

  pub door_alone : AsksNoRun words → new.door ≡ old.door
  door_alone never = (alone_cases never).1

  pub spawner_alone : AsksNoRun words → new.spawner ≡ old.spawner
  spawner_alone never = (alone_cases never).2

  -- ---- words that ask to run something

  pub row_of_run : (about : Texts) → AsksToRun words about → AnswersRun o failures sink words old new before now status
  row_of_run about asks = by answers
    where
      by : Answers o failures sink words old new before now status → AnswersRun o failures sink words old new before now status
      by (alone never row door spawner) = absurd (never about asks)
      by (by_row row) = row

  -- ---- all words

  -- a row of the call without clients, or a run that began
  cases : HasAnswered o.shelf sink old.shelf new.shelf before now (with_run words) status ⊎ Ran o failures sink words old new before now status
  cases = by answers
    where
      row : Early o failures sink words old new before now status ⊎ Ran o failures sink words old new before now status
          → HasAnswered o.shelf sink old.shelf new.shelf before now (with_run words) status ⊎ Ran o failures sink words old new before now status
      row (inl early) = inl early.answered
      row (inr began) = inr began

      by : Answers o failures sink words old new before now status
          → HasAnswered o.shelf sink old.shelf new.shelf before now (with_run words) status ⊎ Ran o failures sink words old new before now status
      by (alone never was door spawner) = inl (not_run words status never was)
      by (by_row was) = row (row_cases o failures sink words old new before now status none join was)

  abbrev Took : Verdict → Type 0
  Took v = TookLine (sink.holds before) (sink.holds now) (line_of v)

  -- no run that began has such a status
  no_status : (began : Ran o failures sink words old new before now status) → (due : ℕ) → due ≢ 0 → due ≢ 4 → due ≢ 5 → due ≢ 6 → due ≢ 8 → status ≡ due → ⊥
  no_status began due none four five six eight is = ran.never once one join began due none four five six eight is

  no_one : Ran o failures sink words old new before now status → status ≡ 1 → ⊥
  no_one began is = no_status began 1 (λ e. omega (arith, e)) (λ e. omega (arith, e)) (λ e. omega (arith, e)) (λ e. omega (arith, e)) (λ e. omega (arith, e)) is

  no_two : Ran o failures sink words old new before now status → status ≡ 2 → ⊥
  no_two began is = no_status began 2 (λ e. omega (arith, e)) (λ e. omega (arith, e)) (λ e. omega (arith, e)) (λ e. omega (arith, e)) (λ e. omega (arith, e)) is

  no_three : Ran o failures sink words old new before now status → status ≡ 3 → ⊥
  no_three began is = no_status began 3 (λ e. omega (arith, e)) (λ e. omega (arith, e)) (λ e. omega (arith, e)) (λ e. omega (arith, e)) (λ e. omega (arith, e)) is

  no_seven : Ran o failures sink words old new before now status → status ≡ 7 → ⊥
  no_seven began is = no_status began 7 (λ e. omega (arith, e)) (λ e. omega (arith, e)) (λ e. omega (arith, e)) (λ e. omega (arith, e)) (λ e. omega (arith, e)) is

  no_nine : Ran o failures sink words old new before now status → status ≡ 9 → ⊥
  no_nine began is = no_status began 9 (λ e. omega (arith, e)) (λ e. omega (arith, e)) (λ e. omega (arith, e)) (λ e. omega (arith, e)) (λ e. omega (arith, e)) is

  pub called : HasCalled o.shelf sink old.shelf new.shelf before now status
  called = elim cases [ inl row ↦ top.called once one row | inr began ↦ ran.called once one join began ]

  pub usage : status ≡ 1 → AreRefused (with_run words) × Went o.shelf old.shelf new.shelf [] × Took Usage
  usage is = elim cases [ inl row ↦ top.usage once one row is | inr began ↦ absurd (no_one began is) ]

  pub text_refused : status ≡ 2 → (line : List ℕ) × RefusesText o.shelf old.shelf new.shelf (with_run words) line × Took (TextRefused line)
  text_refused is = elim cases [ inl row ↦ top.text_refused once one row is | inr began ↦ absurd (no_two began is) ]

  pub plan_refused : status ≡ 3 → (line : List ℕ) × RefusesPlan o.shelf old.shelf new.shelf (with_run words) line × Took (PlanRefused line)
  plan_refused is = elim cases [ inl row ↦ top.plan_refused once one row is | inr began ↦ absurd (no_three began is) ]

  pub shelf_fault : status ≡ 5 → Rose (o.shelf.failures old.shelf) (o.shelf.failures new.shelf)
  shelf_fault is = elim cases [ inl row ↦ top.shelf_fault once one row is | inr began ↦ ran.shelf_fault once one join began is ]

  pub journal_length : status ≡ 7 → (plan : Plan) × (first : State) × (journal : Journal) × Misfits o.shelf old.shelf new.shelf (with_run words) plan first journal
      × Took (length_verdict plan first journal)
  journal_length is = elim cases [ inl row ↦ top.journal_length once one row is | inr began ↦ absurd (no_seven began is) ]

  pub sink_fault : status ≡ 8 → Rose (sink.failures before) (sink.failures now)
  sink_fault is = elim cases [ inl row ↦ top.sink_fault once one row is | inr began ↦ ran.sink_fault once one join began is ]

  pub no_file : status ≡ 9 → (name : List ℕ) × MissesFile o.shelf old.shelf new.shelf (with_run words) name × Took (NoFile name)
  no_file is = elim cases [ inl row ↦ top.no_file once one row is | inr began ↦ absurd (no_nine began is) ]

  pub refused_same : IsRefusal (with_run words) status → HoldsSame (o.shelf.holds old.shelf) (o.shelf.holds new.shelf)
  refused_same refusal = elim cases [ inl row ↦ top.refused_same once one row refusal | inr began ↦ absurd (no_refusal began refusal) ]
    where
      no_refusal : Ran o failures sink words old new before now status → IsRefusal (with_run words) status → ⊥
      no_refusal began (inl (inl is)) = no_one began is
      no_refusal began (inl (inr is)) = no_nine began is
      no_refusal began (inr (inl is, never)) = no_two began is
      no_refusal began (inr (inr is, never)) = no_three began is

  pub refused_generated : (objects : ℕ) → Asks (with_run words) (commands.Gen objects) → (status ≡ 2) ⊎ (status ≡ 3) → HoldsTexts objects (o.shelf.holds old.shelf) (o.shelf.holds new.shelf)
  refused_generated objects asks refusal = elim cases [ inl row ↦ top.refused_generated once one row objects asks refusal | inr began ↦ absurd (no_refusal began refusal) ]
    where
      no_refusal : Ran o failures sink words old new before now status → (status ≡ 2) ⊎ (status ≡ 3) → ⊥
      no_refusal began (inl is) = no_two began is
      no_refusal began (inr is) = no_three began is

  pub usage_all : AreRefused (with_run words) → EndsWith status 1
  usage_all refused = elim cases [ inl row ↦ top.usage_all once one row refused | inr began ↦ ran.usage_all once one join began refused ]

  pub no_file_all : (about : Texts) (given : List (Option (List ℕ))) → Finds o.shelf old.shelf (with_run words) about given → Contains given None
      → (Rose (o.shelf.failures old.shelf) (o.shelf.failures new.shelf) → ⊥) → EndsWith status 9
  no_file_all about given finds lacks quiet = elim cases [
    | inl row ↦ top.no_file_all once one row about given finds lacks quiet
    | inr began ↦ ran.no_file_all once one join began about given finds lacks
  ]

  pub text_refused_all : (command : Command) (given : Sources) → Gives o.shelf old.shelf (with_run words) command given → AreRefusedTexts (aim_of command) given
      → (Rose (o.shelf.failures old.shelf) (o.shelf.failures new.shelf) → ⊥) → EndsWith status 2
  text_refused_all command given gives refused quiet = elim cases [
    | inl row ↦ top.text_refused_all once one row command given gives refused quiet
    | inr began ↦ ran.text_refused_all once one join began command given gives refused
  ]

  pub plan_refused_all : (command : Command) (given : Sources) (line : List ℕ) → Gives o.shelf old.shelf (with_run words) command given → IsPlanRefused given.s_define given.input line
      → (Rose (o.shelf.failures old.shelf) (o.shelf.failures new.shelf) → ⊥) → EndsWith status 3
  plan_refused_all command given line gives refused quiet = elim cases [
    | inl row ↦ top.plan_refused_all once one row command given line gives refused quiet
    | inr began ↦ ran.plan_refused_all once one join began command given line gives refused
  ]

  pub journal_length_all : (command : Command) (given : Sources) → Gives o.shelf old.shelf (with_run words) command given → aim_of command ≡ aim.Run → AreAccepted given → IsMisfitIn given
      → (Rose (o.shelf.failures old.shelf) (o.shelf.failures new.shelf) → ⊥) → EndsWith status 7
  journal_length_all command given gives run good bad quiet = elim cases [
    | inl row ↦ top.journal_length_all once one row command given gives run good bad quiet
    | inr began ↦ ran.journal_length_all once one join began command given gives bad
  ]

  pub complete : (command : Command) (given : Sources) → Gives o.shelf old.shelf (with_run words) command given → AreAccepted given → IsFittingIn given
      → (Rose (o.shelf.failures old.shelf) (o.shelf.failures new.shelf) → ⊥) → (Rose (sink.failures before) (sink.failures now) → ⊥) → IsEnd (aim_of command) status
  complete command given gives good fits quiet whole = elim cases [
    | inl row ↦ top.complete once one row command given gives good fits quiet whole
    | inr began ↦ ran.complete once one join began command given gives quiet whole
  ]
