-- The row of a run: one that did not begin, or one that did.
use Rattle.std.proofs.Common.{◌≡◌, ◌≢◌, ◌∙◌, ℕ, List, [], ◌++◌, Some, inl, inr, ap, append-nil, arith, refl, subst, sym}
use Rattle.std.specs.Prelude.{◌⊎◌}
use Rattle.trick_model.specs.State.{State}
use Rattle.trick_model.specs.declared.plan.Plan.{Plan}
use Rattle.trick_outside.proofs.DoesLemmas.{Joins, went_none}
use Rattle.trick_outside.specs.Calls.{AllLeave, Call}
use Rattle.trick_outside.specs.declared.shelf.Shelf.{Ghosts}
use Rattle.trick_outside.specs.declared.sink.Sink as sink
use Rattle.trick_top_refusals.specs.Checkpoint.{checkpoint_line}
use Rattle.trick_serve.specs.Serving.{Moment, Outside, moment}
use Rattle.trick_top_alone.proofs.FoundLemmas.{leave_reads}
use Rattle.trick_top_alone.proofs.GoneLemmas.{gone_further, gone_unknown, gone_unread}
use Rattle.trick_top_alone.proofs.PrintLemmas.{decided, given as shown}
use Rattle.trick_top_alone.proofs.StandsLemmas.{unread_same}
use Rattle.trick_top_alone.proofs.TellsLemmas.{not_known, ran}
use Rattle.trick_top_alone.proofs.WordLemmas.{run_task}
use Rattle.trick_top_alone.specs.Acts as acts
use Rattle.trick_top_alone.specs.Answered.{HasAnswered}
use Rattle.trick_top_alone.specs.Found.{reads}
use Rattle.trick_top_alone.specs.Outcome.{HasFound, HasGone, HasPerformed, Performed, Unread, acted, missing, no_memory_to_read, not_read, not_understood}
use Rattle.trick_top_alone.specs.Outcome as outcome
use Rattle.trick_top_alone.specs.Printed.{Prints}
use Rattle.trick_top_alone.specs.Sources.{AreNamed, Sources, texts_of}
use Rattle.trick_top_alone.specs.Status.{HoldsSame}
use Rattle.trick_top_alone.specs.Verdict.{OutOfMemory, TextRefused, Verdict, status_of}
use Rattle.trick_top_alone.specs.Words.{Asked, AsksToRun, Unknown, aim_of_task, names_of, with_run}
use Rattle.trick_top_words.specs.declared.command.Texts.{Texts}
use Rattle.trick_top_words.specs.declared.command.Command.TheVariants as commands
use Rattle.trick_top_alone.specs.Aims.{Run}
use Rattle.trick_top_alone.specs.Aims.{Aim}
use Rattle.trick_top.specs.Answers.{AnswersRun}
use Rattle.trick_top.specs.Headline.{Begins}
use Rattle.trick_top.specs.Rows.{DoesNotBegin, IsServedSo, ServesWords, asked, begun, found, no_memory, no_memory_to_serve}
use Rattle.trick_top.specs.Rows.{not_begun, plan_refused, text_refused, unloaded, unread}

-- ---- texts whose run does not begin

-- they decide as texts of a run do
performs : (t : Aim) (given : Sources) {verdict : Verdict} → t ≡ Run → DoesNotBegin given verdict → Performed t given [] verdict
performs t given is (text_refused refused) = outcome.text_refused refused
performs t given is (plan_refused refused) = outcome.plan_refused refused
performs t given is (unloaded {plan = plan} {why = why} ready from none) =
    acted ready
    (subst (λ (k : Aim). acts.Acts plan given.from given.journal k [] (TextRefused (checkpoint_line why))) (sym is) (acts.unloaded from none))
performs t given is no_memory = not_understood

-- the status of a verdict is none of a run that came to its end
abbrev pub IsNoEnd : ℕ → Type 0
IsNoEnd status = (status ≡ 0) ⊎ (status ≡ 4) → ⊥

no_end : (n : ℕ) → n ≢ 0 → n ≢ 4 → IsNoEnd n
no_end n none four (inl is) = none is
no_end n none four (inr is) = four is

not_begun_no_end : (given : Sources) {verdict : Verdict} → DoesNotBegin given verdict → IsNoEnd (status_of verdict)
not_begun_no_end given (text_refused refused) = no_end 2 (λ e. omega (arith, e)) (λ e. omega (arith, e))
not_begun_no_end given (plan_refused refused) = no_end 3 (λ e. omega (arith, e)) (λ e. omega (arith, e))
not_begun_no_end given (unloaded ready from why) = no_end 2 (λ e. omega (arith, e)) (λ e. omega (arith, e))
not_begun_no_end given no_memory = no_end 6 (λ e. omega (arith, e)) (λ e. omega (arith, e))

unread_no_end : {wanted : List (List ℕ)} {calls : List Call} {verdict : Verdict} → Unread wanted calls verdict → IsNoEnd (status_of verdict)
unread_no_end (missing files name others named) = no_end 9 (λ e. omega (arith, e)) (λ e. omega (arith, e))
unread_no_end (not_read files name others named) = no_end 5 (λ e. omega (arith, e)) (λ e. omega (arith, e))
unread_no_end (no_memory_to_read files name others named) = no_end 6 (λ e. omega (arith, e)) (λ e. omega (arith, e))

-- ---- the two kinds of rows

-- what was read leaves what was held
pub found_same : {F : Type 0} {shelf : Ghosts F} {old mid : F} {names texts : List (List ℕ)} → HasFound shelf old mid names texts
    → HoldsSame (shelf.holds old) (shelf.holds mid)
found_same {shelf = shelf} {old = old} {mid = mid} were held told =
    let left = were.went.went.left held told in
    let all : AllLeave (reads were.files ++ []) held left.0 = subst (λ (calls : List Call). AllLeave calls held left.0) (sym (append-nil (reads were.files))) left.2 in
    left.1 ∙ ap Some (leave_reads were.files [] held left.0 all).1

module _ {F D I O S K : Type 0} (o : Outside F D I O S) (failures : D → ℕ) (sink : sink.Ghosts K) (words : List (List ℕ)) (old new : Moment F D S)
    (before now : K) (status : ℕ) where
  -- A run that did not begin is answered as one without clients that does not begin, and leaves all as it was.
  pub record Early : Type 0 where
    pub answered : HasAnswered o.shelf sink old.shelf new.shelf before now (with_run words) status
    pub no_end : IsNoEnd status
    pub holds : HoldsSame (o.shelf.holds old.shelf) (o.shelf.holds new.shelf)
    pub door : new.door ≡ old.door
    pub spawner : new.spawner ≡ old.spawner

  -- A run that began.
  pub record Ran : Type 0 where
    pub plan : Plan
    pub first : State
    pub mid : F
    pub begins : Begins o words plan first old.shelf mid
    pub verdict : Verdict
    pub served : IsServedSo o failures plan first (moment mid old.door old.spawner) new verdict
    pub prints : Prints sink before now verdict status

  -- what is printed has the verdict's status, or one of want of memory or of a failed sink
  printed_no_end : {verdict : Verdict} → Prints sink before now verdict status → IsNoEnd (status_of verdict) → IsNoEnd status
  printed_no_end prints never (inl is) = never (inl (decided (shown prints) 0 is (λ e. omega (arith, e)) (λ e. omega (arith, e))).0)
  printed_no_end prints never (inr is) = never (inr (decided (shown prints) 4 is (λ e. omega (arith, e)) (λ e. omega (arith, e))).0)

  -- the laws of the shelf: no call, and calls one after another
  module _ (none : (s : F) → o.shelf.called s [] s) (join : Joins o.shelf) where
    no_memory_early : new ≡ old → Prints sink before now OutOfMemory status → Early
    no_memory_early same prints =
        let shelf : new.shelf ≡ old.shelf = ap (λ (m : Moment F D S). m.shelf) same in
        let gone = subst (λ (s : F). HasGone o.shelf old.shelf s Unknown OutOfMemory) (sym shelf) (gone_unknown {shelf = o.shelf} old.shelf (none old.shelf)) in
        record {
          answered = not_known (with_run words) status gone prints;
          no_end = printed_no_end prints (no_end 6 (λ e. omega (arith, e)) (λ e. omega (arith, e)));
          holds = λ files told. ap o.shelf.holds shelf ∙ told;
          door = ap (λ (m : Moment F D S). m.door) same;
          spawner = ap (λ (m : Moment F D S). m.spawner) same;
        }

    found_early : (about : Texts) {given : Sources} {mid : F} {verdict : Verdict} → AsksToRun words about
        → HasFound o.shelf old.shelf mid (names_of about) (texts_of given) → AreNamed about given → DoesNotBegin given verdict
        → new ≡ moment mid old.door old.spawner → Prints sink before now verdict status → Early
    found_early about {given = given} {mid = mid} {verdict = verdict} asks was named why same prints =
        let shelf : new.shelf ≡ mid = ap (λ (m : Moment F D S). m.shelf) same in
        let on : HasPerformed o.shelf mid mid (aim_of_task about.task) given verdict =
        record { calls = []; went = went_none mid (none mid); performed = performs (aim_of_task about.task) given (run_task words about asks) why } in
        let gone : HasGone o.shelf old.shelf mid (Asked (commands.Texts about)) verdict = gone_further about given given verdict join named was refl on in
        record {
          answered = ran words about verdict status asks (subst (λ (s : F). HasGone o.shelf old.shelf s (Asked (commands.Texts about)) verdict) (sym shelf) gone) prints;
          no_end = printed_no_end prints (not_begun_no_end given why);
          holds = λ files told. ap o.shelf.holds shelf ∙ found_same {shelf = o.shelf} was files told;
          door = ap (λ (m : Moment F D S). m.door) same;
          spawner = ap (λ (m : Moment F D S). m.spawner) same;
        }

    pub row_cases : AnswersRun o failures sink words old new before now status → Early ⊎ Ran
    row_cases row = by row.serves row.prints
      where
        by : {verdict : Verdict} → ServesWords o failures words old new verdict → Prints sink before now verdict status → Early ⊎ Ran
        by (no_memory_to_serve same) prints = inl (no_memory_early same prints)
        by {verdict = verdict} (asked {about = about} asks (unread was door spawner)) prints =
            inl (record {
              answered = ran words about verdict status asks (gone_unread about verdict refl was) prints;
              no_end = printed_no_end prints (unread_no_end was.unread);
              holds = λ files told. (let left = was.went.went.left files told in left.1 ∙ ap Some (unread_same files left.0 was.unread left.2));
              door = door;
              spawner = spawner;
            })
        by (asked {about = about} asks (found was named (not_begun why same))) prints = inl (found_early about asks was named why same prints)
        by {verdict = verdict} (asked {about = about} asks (found {given = given} {mid = mid} was named (begun {plan = plan} {first = first} ready starts so))) prints =
            inr (record {
              plan = plan;
              first = first;
              mid = mid;
              begins = record { about = about; asks = asks; given = given; named = named; found = was; ready = ready; starts = starts };
              verdict = verdict;
              served = so;
              prints = prints;
            })
