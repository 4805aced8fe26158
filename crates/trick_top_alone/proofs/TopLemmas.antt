-- The clauses of the top call, from its row of the table.
use Rattle.std.proofs.Common.{◌≡◌, ◌≢◌, ℕ, zero, suc, List, [], ◌++◌, None, Some, inl, inr, map, option_to_list, refl, sym, ◌∙◌, subst, ap, arith, Contains, true}
use Rattle.std.specs.Prelude.{Option, is_some, ◌⊎◌}
use Rattle.trick_model.specs.State.{State}
use Rattle.trick_model.specs.declared.entry.Entry.{Entry}
use Rattle.trick_model.specs.declared.journal.Journal.{Journal}
use Rattle.trick_model.specs.declared.plan.Plan.{Plan}
use Rattle.trick_outside.specs.Calls.{Call, fails}
use Rattle.trick_outside.specs.Causes.{Rose}
use Rattle.trick_outside.specs.Does.{Went}
use Rattle.trick_outside.specs.declared.shelf.Shelf.{Ghosts}
use Rattle.trick_outside.specs.declared.sink.Sink as sink
use Rattle.trick_top_texts.specs.Meaning.{HaveOneMeaning}
use Rattle.trick_top_texts.specs.Texts.{IsPlanRefused}
use Rattle.trick_top_alone.proofs.CompleteLemmas.{AreOneLine, Done, IsEnd, accepted_ends, asked_goes, bad_plan_ends, found_goes, generated_goes}
use Rattle.trick_top_alone.proofs.CompleteLemmas.{misfit_ends, missing_ends, refused_ends, refused_usage, same_asked}
use Rattle.trick_top_alone.proofs.OutcomeLemmas.{faults}
use Rattle.trick_top_alone.proofs.PrintLemmas.{Given, decided, ends_with, given, not_ended}
use Rattle.trick_top_alone.proofs.SaysLemmas as says_row
use Rattle.trick_top_alone.proofs.StandsLemmas as stands_row
use Rattle.trick_top_alone.specs.Acts.{last_state, length_verdict}
use Rattle.trick_top_alone.specs.Answered.{HasAnswered}
use Rattle.trick_top_alone.specs.Called.{HasCalled}
use Rattle.trick_top_alone.specs.Outcome.{GoesOn, Outcome, Performed}
use Rattle.trick_top_alone.specs.Sources.{AreNamed, Sources, texts_of}
use Rattle.trick_top_alone.specs.Status.{AreAccepted, AreRefusedTexts, EndsWith, Finds, Gives, HoldsSame, HoldsTexts, IsDone, IsFittingIn, IsMisfitIn, IsRefusal, Misfits, MissesFile, RefusesPlan}
use Rattle.trick_top_alone.specs.Status.{RefusesText, RunsToEnd, Says, Stands, TellsEnd, TookLine, accepted, end_verdict, files_held, listed, ran, texts_generated}
use Rattle.trick_top_alone.specs.Verdict.{Accepted, Ended, Generated, JournalLength, Listed, NoFile, OutOfMemory, PlanRefused, Served, ShelfFault, TextRefused, Usage, Verdict, ended_status, line_of, status_of}
use Rattle.trick_top_alone.specs.Words.{AreRefused, Asked, Asks, Words, aim_of, aim_of_task}
use Rattle.trick_top_words.specs.declared.command.Texts.{Texts}
use Rattle.trick_top_words.specs.declared.command.Command.TheVariants as commands
use Rattle.trick_top_words.specs.declared.command.Command.{Command}
use Rattle.trick_top_alone.specs.Aims as aim
use Rattle.trick_top_alone.specs.Aims.{Aim}

-- which verdict a status is of
is_usage : (verdict : Verdict) → status_of verdict ≡ 1 → verdict ≡ Usage
is_usage Usage e = refl
is_usage (Ended ended sessions) e = absurd (not_ended ended.faults 1 (λ e. omega (arith, e)) (λ e. omega (arith, e)) e)
is_usage (Generated objects ended sessions) e = absurd (not_ended ended.faults 1 (λ e. omega (arith, e)) (λ e. omega (arith, e)) e)
is_usage (Served ended sessions door_failed) e = absurd (not_ended ended.faults 1 (λ e. omega (arith, e)) (λ e. omega (arith, e)) e)
is_usage verdict e = absurd (omega (arith, e))

is_no_file : (verdict : Verdict) → status_of verdict ≡ 9 → (name : List ℕ) × (verdict ≡ NoFile name)
is_no_file (NoFile name) e = (name, refl)
is_no_file (Ended ended sessions) e = absurd (not_ended ended.faults 9 (λ e. omega (arith, e)) (λ e. omega (arith, e)) e)
is_no_file (Generated objects ended sessions) e = absurd (not_ended ended.faults 9 (λ e. omega (arith, e)) (λ e. omega (arith, e)) e)
is_no_file (Served ended sessions door_failed) e = absurd (not_ended ended.faults 9 (λ e. omega (arith, e)) (λ e. omega (arith, e)) e)
is_no_file verdict e = absurd (omega (arith, e))

is_text_refused : (verdict : Verdict) → status_of verdict ≡ 2 → (line : List ℕ) × (verdict ≡ TextRefused line)
is_text_refused (TextRefused line) e = (line, refl)
is_text_refused (Ended ended sessions) e = absurd (not_ended ended.faults 2 (λ e. omega (arith, e)) (λ e. omega (arith, e)) e)
is_text_refused (Generated objects ended sessions) e = absurd (not_ended ended.faults 2 (λ e. omega (arith, e)) (λ e. omega (arith, e)) e)
is_text_refused (Served ended sessions door_failed) e = absurd (not_ended ended.faults 2 (λ e. omega (arith, e)) (λ e. omega (arith, e)) e)
is_text_refused verdict e = absurd (omega (arith, e))

is_plan_refused : (verdict : Verdict) → status_of verdict ≡ 3 → (line : List ℕ) × (verdict ≡ PlanRefused line)
is_plan_refused (PlanRefused line) e = (line, refl)
is_plan_refused (Ended ended sessions) e = absurd (not_ended ended.faults 3 (λ e. omega (arith, e)) (λ e. omega (arith, e)) e)
is_plan_refused (Generated objects ended sessions) e = absurd (not_ended ended.faults 3 (λ e. omega (arith, e)) (λ e. omega (arith, e)) e)
is_plan_refused (Served ended sessions door_failed) e = absurd (not_ended ended.faults 3 (λ e. omega (arith, e)) (λ e. omega (arith, e)) e)
is_plan_refused verdict e = absurd (omega (arith, e))

is_shelf_fault : (verdict : Verdict) → status_of verdict ≡ 5 → verdict ≡ ShelfFault
is_shelf_fault (Ended ended sessions) e = absurd (not_ended ended.faults 5 (λ e. omega (arith, e)) (λ e. omega (arith, e)) e)
is_shelf_fault (Generated objects ended sessions) e = absurd (not_ended ended.faults 5 (λ e. omega (arith, e)) (λ e. omega (arith, e)) e)
is_shelf_fault (Served ended sessions door_failed) e = absurd (not_ended ended.faults 5 (λ e. omega (arith, e)) (λ e. omega (arith, e)) e)
is_shelf_fault ShelfFault e = refl
is_shelf_fault verdict e = absurd (omega (arith, e))

is_journal_length : (verdict : Verdict) → status_of verdict ≡ 7 → (kept : ℕ) × (given : ℕ) × (verdict ≡ JournalLength kept given)
is_journal_length (Ended ended sessions) e = absurd (not_ended ended.faults 7 (λ e. omega (arith, e)) (λ e. omega (arith, e)) e)
is_journal_length (Generated objects ended sessions) e = absurd (not_ended ended.faults 7 (λ e. omega (arith, e)) (λ e. omega (arith, e)) e)
is_journal_length (Served ended sessions door_failed) e = absurd (not_ended ended.faults 7 (λ e. omega (arith, e)) (λ e. omega (arith, e)) e)
is_journal_length (JournalLength kept given) e = (kept, given, refl)
is_journal_length verdict e = absurd (omega (arith, e))

-- the same options are the same lists
same_option : (one other : Option (List ℕ)) → option_to_list one ≡ option_to_list other → one ≡ other
same_option None None is = refl
same_option None (Some text) is = cc
same_option (Some text) None is = cc
same_option (Some text) (Some other) is = cc

-- two of them, one after the other
same_options : (a b c d : Option (List ℕ)) → is_some a ≡ is_some c → option_to_list a ++ option_to_list b ≡ option_to_list c ++ option_to_list d → (a ≡ c) × (b ≡ d)
same_options None b None d kind is = (refl, same_option b d is)
same_options None b (Some y) d kind is = absurd cc
same_options (Some x) b None d kind is = absurd cc
same_options (Some x) b (Some y) d kind is =
    let first : x ≡ y = cc in
    let rest : option_to_list b ≡ option_to_list d = cc in
    (ap Some first, same_option b d rest)

-- texts that a command names are those of one list
pub same_sources : (about : Texts) (one other : Sources) → AreNamed about one → AreNamed about other → texts_of one ≡ texts_of other → one ≡ other
same_sources about one other named also is =
    let first : one.s_define ≡ other.s_define = cc in
    let second : one.input ≡ other.input = cc in
    let others : option_to_list one.from ++ option_to_list one.journal ≡ option_to_list other.from ++ option_to_list other.journal = cc in
    let both = same_options one.from one.journal other.from other.journal (named.from ∙ sym also.from) others in
    ap (λ s. record { s_define = s; input = one.input; from = one.from; journal = one.journal }) first
    ∙ ap (λ i. record { s_define = other.s_define; input = i; from = one.from; journal = one.journal }) second
    ∙ ap (λ f. record { s_define = other.s_define; input = other.input; from = f; journal = one.journal }) both.0
    ∙ ap (λ j. record { s_define = other.s_define; input = other.input; from = other.from; journal = j }) both.1

-- what a command does with texts
performed_of : (about : Texts) (given : Sources) {calls : List Call} {verdict : Verdict} → AreNamed about given → GoesOn about (texts_of given) calls verdict → Performed (aim_of_task about.task) given calls verdict
performed_of about given {calls = calls} {verdict = verdict} named goes =
    subst (λ g. Performed (aim_of_task about.task) g calls verdict) (sym (same_sources about given goes.given named goes.named goes.are)) goes.performed

-- the faults that a verdict tells
abbrev faults_of : Verdict → ℕ
faults_of (Ended ended sessions) = ended.faults
faults_of (Generated objects ended sessions) = ended.faults
faults_of (Served ended sessions door_failed) = ended.faults
faults_of verdict = 0

-- what a verdict tells of the faults of a run
abbrev Tells : {S : Type 0} (shelf : Ghosts S) (old new : S) (words : Words) → Verdict → (ℕ → Type 0) → Type 0
Tells shelf old new words verdict Count =
    (command : Command) × (plan : Plan) × (first : State) × (lists : List (List Entry)) × RunsToEnd shelf old new words command plan first lists × Count ((last_state plan first lists).faults).count × (verdict ≡ end_verdict command plan first lists)

-- the faults that are told are those of the last state
end_faults : (command : Command) (plan : Plan) (first : State) (lists : List (List Entry)) → faults_of (end_verdict command plan first lists) ≡ ((last_state plan first lists).faults).count
end_faults (commands.Texts about) plan first lists = refl
end_faults (commands.Gen objects) plan first lists = refl

tells : {S : Type 0} {shelf : Ghosts S} {old new : S} {words : Words} (verdict : Verdict) (Count : ℕ → Type 0) → TellsEnd shelf old new words verdict → Count (faults_of verdict) → Tells shelf old new words verdict Count
tells verdict Count (command, plan, first, lists, runs, is) holds =
    (command, plan, first, lists, runs, subst Count (ap faults_of is ∙ end_faults command plan first lists) holds, is)

no_faults : (count : ℕ) → ended_status count ≡ 0 → count ≡ 0
no_faults zero e = refl
no_faults (suc count) e = absurd (omega (arith, e))

some_faults : (count : ℕ) → ended_status count ≡ 4 → count ≢ 0
some_faults zero e = absurd (omega (arith, e))
some_faults (suc count) e = λ none. omega (arith, none)

-- a verdict of status 0 says that it is done
ran_done : {S : Type 0} {shelf : Ghosts S} {old new : S} {words : Words} (verdict : Verdict) → Tells shelf old new words verdict (λ count. count ≡ 0) → IsDone shelf old new words verdict
ran_done {shelf = shelf} {old = old} {new = new} {words = words} verdict (command, plan, first, lists, runs, none, is) =
    subst (IsDone shelf old new words) (sym is) (ran command plan first lists runs none)

done_says : {S : Type 0} {shelf : Ghosts S} {old new : S} {words : Words} (verdict : Verdict) → status_of verdict ≡ 0 → Says shelf old new words verdict → IsDone shelf old new words verdict
done_says Usage e says = absurd (omega (arith, e))
done_says (NoFile name) e says = absurd (omega (arith, e))
done_says (TextRefused line) e says = absurd (omega (arith, e))
done_says (PlanRefused line) e says = absurd (omega (arith, e))
done_says {shelf = shelf} {old = old} {new = new} {words = words} (Accepted cells jobs threads) e (plan, looks, is) = subst (IsDone shelf old new words) (sym is) (accepted plan looks)
done_says {shelf = shelf} {old = old} {new = new} {words = words} (Listed line) e (plan, looks, is) = subst (IsDone shelf old new words) (sym is) (listed plan looks)
done_says (Ended ended sessions) e says = ran_done (Ended ended sessions) (tells (Ended ended sessions) (λ count. count ≡ 0) says (no_faults ended.faults e))
done_says (Generated objects ended sessions) e says =
    ran_done (Generated objects ended sessions) (tells (Generated objects ended sessions) (λ count. count ≡ 0) says (no_faults ended.faults e))
done_says (Served ended sessions door_failed) e says = absurd says
done_says (JournalLength kept given) e says = absurd (omega (arith, e))
done_says ShelfFault e says = absurd (omega (arith, e))
done_says OutOfMemory e says = absurd (omega (arith, e))

-- a verdict of status 4 says that a run had faults
faults_say : {S : Type 0} {shelf : Ghosts S} {old new : S} {words : Words} (verdict : Verdict) → status_of verdict ≡ 4 → Says shelf old new words verdict → Tells shelf old new words verdict (λ count. count ≢ 0)
faults_say (Ended ended sessions) e says = tells (Ended ended sessions) (λ count. count ≢ 0) says (some_faults ended.faults e)
faults_say (Generated objects ended sessions) e says = tells (Generated objects ended sessions) (λ count. count ≢ 0) says (some_faults ended.faults e)
faults_say (Served ended sessions door_failed) e says = absurd says
faults_say verdict e says = absurd (omega (arith, e))

-- it came to its end, unless there was no memory to tell it
ends : {O : Type 0} {sink : sink.Ghosts O} {before now : O} {verdict : Verdict} {status : ℕ} {t : Aim} → Given sink before now verdict status → IsEnd t (status_of verdict)
    → (status ≡ 8 → ⊥) → IsEnd t status
ends {t = t} so is never = elim so.result [
  | inl both ↦ subst (IsEnd t) (sym both.0) is
  | inr (inl short) ↦ inr (inr short)
  | inr (inr failed) ↦ absurd (never failed)
]

module _ {S O : Type 0} {shelf : Ghosts S} {sink : sink.Ghosts O} {old new : S} {before now : O}
    {words : Words} {status : ℕ} (once : AreOneLine) (one : (s_define input : List ℕ) → HaveOneMeaning s_define input)
    (row : HasAnswered shelf sink old new before now words status) where
  abbrev verdict : Verdict
  verdict = row.verdict

  so : Given sink before now verdict status
  so = given row.prints

  says : Says shelf old new words verdict
  says = says_row.says shelf old new words verdict row.wanted row.gone.outcome row.asked row.gone.went

  abbrev pub Took : Verdict → Type 0
  Took v = TookLine (sink.holds before) (sink.holds now) (line_of v)

  -- what a status says that is neither 6 nor 8
  told : (due : ℕ) → status ≡ due → due ≢ 6 → due ≢ 8 → (status_of verdict ≡ due) × Took verdict
  told due is six eight = decided so due is six eight

  usage_is : status ≡ 1 → Says shelf old new words Usage × Took Usage
  usage_is is =
      let both = told 1 is (λ e. omega (arith, e)) (λ e. omega (arith, e)) in
      let same = is_usage verdict both.0 in
      (subst (Says shelf old new words) same says, subst Took same both.1)

  pub usage : status ≡ 1 → AreRefused words × Went shelf old new [] × Took Usage
  usage is = let both = usage_is is in (both.0.0, both.0.1, both.1)

  pub no_file : status ≡ 9 → (name : List ℕ) × MissesFile shelf old new words name × Took (NoFile name)
  no_file is =
      let both = told 9 is (λ e. omega (arith, e)) (λ e. omega (arith, e)) in
      let same = is_no_file verdict both.0 in
      (same.0, subst (Says shelf old new words) same.1 says, subst Took same.1 both.1)

  pub text_refused : status ≡ 2 → (line : List ℕ) × RefusesText shelf old new words line × Took (TextRefused line)
  text_refused is =
      let both = told 2 is (λ e. omega (arith, e)) (λ e. omega (arith, e)) in
      let same = is_text_refused verdict both.0 in
      (same.0, subst (Says shelf old new words) same.1 says, subst Took same.1 both.1)

  pub plan_refused : status ≡ 3 → (line : List ℕ) × RefusesPlan shelf old new words line × Took (PlanRefused line)
  plan_refused is =
      let both = told 3 is (λ e. omega (arith, e)) (λ e. omega (arith, e)) in
      let same = is_plan_refused verdict both.0 in
      (same.0, subst (Says shelf old new words) same.1 says, subst Took same.1 both.1)

  pub done : status ≡ 0 → (due : Verdict) × IsDone shelf old new words due × Took due
  done is =
      let both = told 0 is (λ e. omega (arith, e)) (λ e. omega (arith, e)) in
      (verdict, done_says verdict both.0 says, both.1)

  pub ended_with_faults : status ≡ 4 → (command : Command) × (plan : Plan) × (first : State) × (lists : List (List Entry)) × RunsToEnd shelf old new words command plan first lists
      × (((last_state plan first lists).faults).count ≢ 0) × Took (end_verdict command plan first lists)
  ended_with_faults is =
      let both = told 4 is (λ e. omega (arith, e)) (λ e. omega (arith, e)) in
      let tells = faults_say verdict both.0 says in
      (tells.0, tells.1, tells.2, tells.3, tells.4, tells.5, subst Took tells.6 both.1)

  pub journal_length : status ≡ 7 → (plan : Plan) × (first : State) × (journal : Journal) × Misfits shelf old new words plan first journal × Took (length_verdict plan first journal)
  journal_length is =
      let both = told 7 is (λ e. omega (arith, e)) (λ e. omega (arith, e)) in
      let same = is_journal_length verdict both.0 in
      let tells : Says shelf old new words (JournalLength same.0 same.1) = subst (Says shelf old new words) same.2 says in
      (tells.0, tells.1, tells.2, tells.3, subst Took (same.2 ∙ tells.4) both.1)

  pub shelf_fault : status ≡ 5 → Rose (shelf.failures old) (shelf.failures new)
  shelf_fault is = subst (Says shelf old new words) (is_shelf_fault verdict (told 5 is (λ e. omega (arith, e)) (λ e. omega (arith, e))).0) says

  pub sink_fault : status ≡ 8 → Rose (sink.failures before) (sink.failures now)
  sink_fault is = so.took.cause.failed (so.failed is)

  pub called : HasCalled shelf sink old new before now status
  called =
      let all = faults row.wanted row.gone.calls verdict row.gone.outcome in
      record {
        calls = row.gone.calls;
        went = row.gone.went;
        ends = all.ends;
        verdict = so.shown;
        pieces = so.pieces;
        told = so.told;
        took = so.took;
        one_line = so.one_line;
        shelf_failed = λ is. all.back (is_shelf_fault verdict (told 5 is (λ e. omega (arith, e)) (λ e. omega (arith, e))).0);
        shelf_fault = λ e. so.shelf_fault (all.there e);
        sink_failed = so.failed;
        sink_fault = so.fault;
      }

  pub refused_same : IsRefusal words status → HoldsSame (shelf.holds old) (shelf.holds new)
  refused_same (inl (inl is)) = stands_row.usage_same shelf old new words (usage_is is).0
  refused_same (inl (inr is)) = let misses = no_file is in stands_row.missing_same shelf old new words misses.0 misses.1
  refused_same (inr (inl is, never)) = let refused = text_refused is in stands_row.text_same shelf old new words refused.0 never refused.1
  refused_same (inr (inr is, never)) = let refused = plan_refused is in stands_row.plan_same shelf old new words refused.0 never refused.1

  pub refused_generated : (objects : ℕ) → Asks words (commands.Gen objects) → (status ≡ 2) ⊎ (status ≡ 3) → HoldsTexts objects (shelf.holds old) (shelf.holds new)
  refused_generated objects asks (inl is) =
      let refused = text_refused is in
      stands_row.text_made shelf old new words objects (λ command also. same_asked once words command (commands.Gen objects) also asks) refused.0 refused.1
  refused_generated objects asks (inr is) =
      let refused = plan_refused is in
      stands_row.plan_made shelf old new words objects (λ command also. same_asked once words command (commands.Gen objects) also asks) refused.0 refused.1

  pub stopped : Stands shelf old new words
  stopped = stands_row.stands shelf old new words verdict row.wanted row.gone.outcome row.asked row.gone.went

  pub usage_all : AreRefused words → EndsWith status 1
  usage_all refused = ends_with so 1 (refused_usage words row.wanted _ _ row.asked refused row.gone.outcome)

  -- no call failed
  quiet : (Rose (shelf.failures old) (shelf.failures new) → ⊥) → fails row.gone.calls ≡ true → ⊥
  quiet never e = never (row.gone.went.went.cause.failed e)

  -- the row of a request
  goes : (command : Command) → Asks words command → Outcome (Asked command) row.gone.calls verdict ⊎ (status_of verdict ≡ 6)
  goes command asks = asked_goes once words row.wanted _ _ row.asked row.gone.outcome command asks

  pub no_file_all : (about : Texts) (given : List (Option (List ℕ))) → Finds shelf old words about given → Contains given None → (Rose (shelf.failures old) (shelf.failures new) → ⊥) → EndsWith status 9
  no_file_all about held finds lacks never =
      let left = row.gone.went.went.left finds.files finds.told in
      let none = subst (λ list. Contains list None) (sym finds.held) lacks in
      ends_with so 9
      (elim (goes (commands.Texts about) finds.asks) [
        | inl on ↦ missing_ends about finds.files left.0 on (quiet never) left.2 none
        | inr short ↦ inr short
      ])

  -- all files are there, so it goes on with their texts
  all_found : (about : Texts) (given : Sources) → AreNamed about given → Finds shelf old words about (map Some (texts_of given)) → (Rose (shelf.failures old) (shelf.failures new) → ⊥)
      → Done (aim_of_task about.task) given (status_of verdict) ⊎ (status_of verdict ≡ 6)
  all_found about given named finds never =
      let left = row.gone.went.went.left finds.files finds.told in
      elim (goes (commands.Texts about) finds.asks) [
        | inl goes ↦
            elim
            (found_goes about finds.files left.0 (texts_of given) goes (quiet never) left.2 finds.held) [
              | inl on ↦ inl (record { late = on.0; verdict = verdict; performed = performed_of about given named on.1; quiet = on.2; is = refl })
              | inr none ↦ inr none
            ]
        | inr short ↦ inr short
      ]

  -- it goes on with the texts that the words lead to
  texts_go : (command : Command) (given : Sources) → Gives shelf old words command given → (Rose (shelf.failures old) (shelf.failures new) → ⊥)
      → Done (aim_of command) given (status_of verdict) ⊎ (status_of verdict ≡ 6)
  texts_go (commands.Texts about) given (files_held named finds) never = all_found about given named finds never
  texts_go (commands.Gen objects) given (texts_generated asks) never = elim (goes (commands.Gen objects) asks) [
    | inl on ↦ generated_goes objects on (quiet never)
    | inr short ↦ inr short
  ]

  -- the status that is due of what was done with the texts
  due_of : {t : Aim} {given : Sources} (due : ℕ) → ((late : List Call) (end : Verdict) → Performed t given late end → (fails late ≡ true → ⊥) → (status_of end ≡ due) ⊎ (status_of end ≡ 6))
      → Done t given (status_of verdict) ⊎ (status_of verdict ≡ 6) → EndsWith status due
  due_of due says_due (inl on) =
      ends_with so due
      (elim (says_due on.late on.verdict on.performed on.quiet) [ inl is ↦ inl (sym on.is ∙ is) | inr short ↦ inr (sym on.is ∙ short) ])
  due_of due says_due (inr short) = ends_with so due (inr short)

  pub text_refused_all : (command : Command) (given : Sources) → Gives shelf old words command given → AreRefusedTexts (aim_of command) given
      → (Rose (shelf.failures old) (shelf.failures new) → ⊥) → EndsWith status 2
  text_refused_all command given gives refused never =
      due_of 2 (λ late end performed never. refused_ends one never refused performed) (texts_go command given gives never)

  pub plan_refused_all : (command : Command) (given : Sources) (line : List ℕ) → Gives shelf old words command given → IsPlanRefused given.s_define given.input line
      → (Rose (shelf.failures old) (shelf.failures new) → ⊥) → EndsWith status 3
  plan_refused_all command given line gives refused never =
      due_of 3 (λ late end performed never. bad_plan_ends one line refused performed) (texts_go command given gives never)

  pub journal_length_all : (command : Command) (given : Sources) → Gives shelf old words command given → aim_of command ≡ aim.Run → AreAccepted given → IsMisfitIn given
      → (Rose (shelf.failures old) (shelf.failures new) → ⊥) → EndsWith status 7
  journal_length_all command given gives run good bad never =
      due_of 7 (λ late end performed never. misfit_ends one never run good bad performed) (texts_go command given gives never)

  pub complete : (command : Command) (given : Sources) → Gives shelf old words command given → AreAccepted given → IsFittingIn given
      → (Rose (shelf.failures old) (shelf.failures new) → ⊥) → (Rose (sink.failures before) (sink.failures now) → ⊥) → IsEnd (aim_of command) status
  complete command given gives good fits never sink_never =
      ends so
      (elim (texts_go command given gives never) [
        | inl on ↦ subst (IsEnd (aim_of command)) on.is (accepted_ends one on.quiet good fits on.performed)
        | inr short ↦ inr (inr short)
      ])
      (λ is. sink_never (sink_fault is))
