-- What a run that began says of each status.
use Rattle.std.proofs.Common.{◌≡◌, ◌≢◌, ◌∙◌, ℕ, List, [], ◌++◌, Bool, true, false, Option, Some, None, Ok, Err, inl, inr, ap, append-nil, arith, map, refl, subst, sym, Contains}
use Rattle.std.specs.FinMap.{get}
use Rattle.std.specs.Prelude.{Result, is_some}
use Rattle.trick_base.specs.Files.{Files}
use Rattle.trick_model.specs.PlanOf.{plan_of}
use Rattle.trick_model.specs.State.{State}
use Rattle.trick_model.specs.declared.plan.Plan.{Plan}
use Rattle.trick_outside.proofs.CallLemmas.{ends-append, fails-late}
use Rattle.trick_outside.proofs.DoesLemmas.{Joins, went_then}
use Rattle.trick_outside.specs.Calls.{AllLeave, Call, EndAtFault, fails}
use Rattle.trick_outside.specs.Causes.{Rose}
use Rattle.trick_outside.specs.Does.{Went}
use Rattle.trick_outside.specs.declared.shelf.Shelf.{Ghosts}
use Rattle.trick_outside.specs.declared.sink.Sink as sink
use Rattle.trick_outside.specs.declared.stop.Stop.TheVariants as stop
use Rattle.trick_outside.specs.declared.stop.Stop.{Stop}
use Rattle.trick_top_texts.specs.Meaning.{HaveOneMeaning}
use Rattle.trick_top_texts.specs.Texts.{IsPlanRefused}
use Rattle.trick_exec_alone.specs.declared.summary.Summary.{Summary}
use Rattle.trick_serve.specs.Served.{HasServedRun}
use Rattle.trick_serve.specs.Serving.{Moment, Outside, moment}
use Rattle.trick_top_alone.proofs.CompleteLemmas.{AreOneLine, IsEnd, ended_is_end, not_run, same_asked}
use Rattle.trick_top_alone.proofs.FoundLemmas.{lacks_none, leave_reads, reads_quiet, same_texts}
use Rattle.trick_top_alone.proofs.PrintLemmas.{Given, decided, given as shown, not_ended}
use Rattle.trick_top_alone.proofs.TellsLemmas.{each_command}
use Rattle.trick_top_alone.proofs.TopLemmas.{same_sources}
use Rattle.trick_top_alone.proofs.WordLemmas.{run_alone, run_task}
use Rattle.trick_top_alone.specs.Called.{HasCalled}
use Rattle.trick_top_alone.specs.Found.{reads, texts}
use Rattle.trick_top_alone.specs.Sources.{AreNamed, Sources, texts_of}
use Rattle.trick_top_alone.specs.Status.{AreRefusedTexts, EndsWith, Finds, Gives, IsMisfitIn, files_held, for_checkpoint, for_journal, for_text, texts_generated}
use Rattle.trick_top_alone.specs.Verdict.{ShelfFault, status_of}
use Rattle.trick_top_alone.specs.Words.{AreRefused, Asks, aim_of, aim_of_task, names_of, with_run}
use Rattle.trick_top_words.specs.declared.command.Texts.{Texts}
use Rattle.trick_top_words.specs.declared.command.Command.TheVariants as commands
use Rattle.trick_top_words.specs.declared.command.Command.{Command}
use Rattle.trick_top_alone.specs.Aims as aim
use Rattle.trick_top_alone.specs.Aims.{Aim}
use Rattle.trick_top.proofs.RowLemmas.{Ran}
use Rattle.trick_top.specs.Rows.{has_risen, served_verdict}

-- ---- verdicts of a run that was served

-- its status is one of four
no_other : (ended : Result Summary Stop) (sessions : ℕ) (failed : Bool) (due : ℕ) → due ≢ 0 → due ≢ 4 → due ≢ 5 → due ≢ 6
    → status_of (served_verdict ended sessions failed) ≡ due → ⊥
no_other (Ok ended) sessions failed due none four five six is = not_ended ended.faults due none four is
no_other (Err stop.Shelf) sessions failed due none four five six is = five (sym is)
no_other (Err stop.Memory) sessions failed due none four five six is = six (sym is)

-- 5 is that of a shelf that failed
by_shelf : (ended : Result Summary Stop) (sessions : ℕ) (failed : Bool) → status_of (served_verdict ended sessions failed) ≡ 5 → ended ≡ Err stop.Shelf
by_shelf (Ok ended) sessions failed is = absurd (not_ended ended.faults 5 (λ e. omega (arith, e)) (λ e. omega (arith, e)) is)
by_shelf (Err stop.Shelf) sessions failed is = refl
by_shelf (Err stop.Memory) sessions failed is = absurd (omega (arith, is))

tells_shelf : (ended : Result Summary Stop) (sessions : ℕ) (failed : Bool) → ended ≡ Err stop.Shelf → served_verdict ended sessions failed ≡ ShelfFault
tells_shelf ended sessions failed is = ap (λ (e : Result Summary Stop). served_verdict e sessions failed) is

-- ---- the calls of a run that was served

-- its calls, of which the last alone may have failed, just where the run stopped at a fault of the shelf
record Did {F : Type 0} (shelf : Ghosts F) (old new : F) (ended : Result Summary Stop) : Type 0 where
  calls : List Call
  went : Went shelf old new calls
  ends : EndAtFault calls
  failed : ended ≡ Err stop.Shelf → fails calls ≡ true
  fault : fails calls ≡ true → ended ≡ Err stop.Shelf

did : {F D I O S : Type 0} (o : Outside F D I O S) (plan : Plan) (first : State) (old new : Moment F D S) (sessions : ℕ) (ended : Result Summary Stop)
    → HasServedRun o (plan_of plan) first old new sessions ended → Did o.shelf old.shelf new.shelf ended
did o plan first old new sessions (Ok ended) (lists, run, is, joined) = record {
  calls = run.does.calls;
  went = run.does.went;
  ends = run.does.ends;
  failed = λ e. cc;
  fault = λ e. (let never = run.does.fault e in cc);
}
did o plan first old new sessions (Err e) (lists, run) = record {
  calls = run.does.calls;
  went = run.does.went;
  ends = run.does.ends;
  failed = λ is. run.does.failed is;
  fault = λ f. run.does.fault f;
}

-- ---- its clauses

module _ {F D I O S K : Type 0} {o : Outside F D I O S} {failures : D → ℕ} {sink : sink.Ghosts K} {words : List (List ℕ)} {old new : Moment F D S}
    {before now : K} {status : ℕ} (once : AreOneLine) (one : (s_define input : List ℕ) → HaveOneMeaning s_define input) (join : Joins o.shelf)
    (ran : Ran o failures sink words old new before now status) where
  so : Given sink before now ran.verdict status
  so = shown ran.prints

  runs : Did o.shelf ran.mid new.shelf ran.served.ended
  runs = did o ran.plan ran.first (moment ran.mid old.door old.spawner) new ran.served.sessions ran.served.ended ran.served.run

  -- whether its door failed
  abbrev door_failed : Bool
  door_failed = has_risen (failures old.door) (failures new.door)

  asks : Asks (with_run words) (commands.Texts ran.begins.about)
  asks = record {
    asked = ran.begins.asks.asked;
    known = each_command (commands.Texts ran.begins.about);
  }

  -- the status of what is printed
  printed : (due : ℕ) → status ≡ due → due ≢ 6 → due ≢ 8 → status_of ran.verdict ≡ due
  printed due is six eight = (decided so due is six eight).0

  -- no other status comes than these
  pub never : (due : ℕ) → due ≢ 0 → due ≢ 4 → due ≢ 5 → due ≢ 6 → due ≢ 8 → status ≡ due → ⊥
  never due none four five six eight is =
      no_other ran.served.ended ran.served.sessions door_failed due none four five six (sym (ap status_of ran.served.told) ∙ printed due is six eight)

  -- all calls of the shelf
  abbrev all_calls : List Call
  all_calls = reads ran.begins.found.files ++ runs.calls

  went : Went o.shelf old.shelf new.shelf all_calls
  went = went_then join ran.begins.found.went runs.went

  fails_so : fails all_calls ≡ fails runs.calls
  fails_so = fails-late (reads ran.begins.found.files) runs.calls (reads_quiet ran.begins.found.files)

  -- the shelf failed
  rose : ran.served.ended ≡ Err stop.Shelf → Rose (o.shelf.failures old.shelf) (o.shelf.failures new.shelf)
  rose is = went.went.cause.failed (fails_so ∙ runs.failed is)

  told_five : status ≡ 5 → ran.served.ended ≡ Err stop.Shelf
  told_five is =
      by_shelf ran.served.ended ran.served.sessions door_failed
      (sym (ap status_of ran.served.told) ∙ printed 5 is (λ e. omega (arith, e)) (λ e. omega (arith, e)))

  pub shelf_fault : status ≡ 5 → Rose (o.shelf.failures old.shelf) (o.shelf.failures new.shelf)
  shelf_fault is = rose (told_five is)

  pub sink_fault : status ≡ 8 → Rose (sink.failures before) (sink.failures now)
  sink_fault is = so.took.cause.failed (so.failed is)

  pub called : HasCalled o.shelf sink old.shelf new.shelf before now status
  called = record {
    calls = all_calls;
    went = went;
    ends = ends-append (reads ran.begins.found.files) runs.calls (reads_quiet ran.begins.found.files) runs.ends;
    verdict = so.shown;
    pieces = so.pieces;
    told = so.told;
    took = so.took;
    one_line = so.one_line;
    shelf_failed = λ is. fails_so ∙ runs.failed (told_five is);
    shelf_fault = λ e. so.shelf_fault (ran.served.told ∙ tells_shelf ran.served.ended ran.served.sessions door_failed (runs.fault (sym fails_so ∙ e)));
    sink_failed = so.failed;
    sink_fault = so.fault;
  }

  -- ---- when each status comes

  pub usage_all : AreRefused (with_run words) → EndsWith status 1
  usage_all refused = absurd (refused (commands.Texts ran.begins.about) asks)

  -- the words ask for this command alone
  same_request : (command : Command) → Asks (with_run words) command → command ≡ commands.Texts ran.begins.about
  same_request command also = same_asked once (with_run words) command (commands.Texts ran.begins.about) also asks

  one_command : (about : Texts) → Asks (with_run words) (commands.Texts about) → about ≡ ran.begins.about
  one_command about also = let same = same_request (commands.Texts about) also in cc

  -- its files were held, with these texts
  were_held : (files : Files) → o.shelf.holds old.shelf ≡ Some files → map (get files) (names_of ran.begins.about) ≡ map Some (texts ran.begins.found.files)
  were_held files told =
      let left = ran.begins.found.went.went.left files told in
      let calls = reads ran.begins.found.files in
      let all : AllLeave (calls ++ []) files left.0 = subst (λ (c : List Call). AllLeave c files left.0) (sym (append-nil calls)) left.2 in
      ap (map (get files)) ran.begins.found.named ∙ (leave_reads ran.begins.found.files [] files left.0 all).0

  pub no_file_all : (about : Texts) (given : List (Option (List ℕ))) → Finds o.shelf old.shelf (with_run words) about given → Contains given None → EndsWith status 9
  no_file_all about given finds lacks =
      let same = one_command about finds.asks in
      let held = sym finds.held ∙ ap (λ (c : Texts). map (get finds.files) (names_of c)) same ∙ were_held finds.files finds.told in
      absurd (lacks_none (texts ran.begins.found.files) (subst (λ (list : List (Option (List ℕ))). Contains list None) held lacks))

  -- texts that the words lead to are those that it has
  one_source : (command : Command) (given : Sources) → Gives o.shelf old.shelf (with_run words) command given → (command ≡ commands.Texts ran.begins.about) × (given ≡ ran.begins.given)
  one_source (commands.Texts about) given (files_held named finds) =
      let same = one_command about finds.asks in
      let held : map Some (texts_of given) ≡ map Some (texts ran.begins.found.files) = sym finds.held ∙ ap (λ (c : Texts). map (get finds.files) (names_of c)) same ∙ were_held finds.files finds.told in
      let are : texts_of given ≡ texts_of ran.begins.given = same_texts (texts_of given) (texts ran.begins.found.files) held ∙ sym ran.begins.found.is in
      (ap commands.Texts same, same_sources ran.begins.about given ran.begins.given (subst (λ (c : Texts). AreNamed c given) same named) ran.begins.named are)
  one_source (commands.Gen objects) given (texts_generated also) = absurd (let same = same_request (commands.Gen objects) also in cc)

  -- they have no journal
  no_journal : (text : List ℕ) → ran.begins.given.journal ≡ Some text → ⊥
  no_journal text is =
      let none : is_some ran.begins.given.journal ≡ false = ran.begins.named.journal ∙ ap is_some (run_alone words ran.begins.about ran.begins.asks) in
      let some : is_some ran.begins.given.journal ≡ true = ap is_some is in
      cc (sym none ∙ some)

  -- and are not refused
  not_refused : AreRefusedTexts aim.Run ran.begins.given → ⊥
  not_refused (for_text line refused) = (one ran.begins.given.s_define ran.begins.given.input).planned ran.plan line ran.begins.ready.planned refused
  not_refused (for_checkpoint plan text run ready is none) = not_run ran.plan ran.begins.given.from ran.first text is (λ s. none ran.plan s ran.begins.ready) ran.begins.starts
  not_refused (for_journal plan text run ready is none) = no_journal text is

  task_is : aim_of_task ran.begins.about.task ≡ aim.Run
  task_is = run_task words ran.begins.about ran.begins.asks

  pub text_refused_all : (command : Command) (given : Sources) → Gives o.shelf old.shelf (with_run words) command given → AreRefusedTexts (aim_of command) given → EndsWith status 2
  text_refused_all command given gives refused =
      let same = one_source command given gives in
      let t : aim_of command ≡ aim.Run = ap aim_of same.0 ∙ task_is in
      absurd (not_refused (subst (λ (g : Sources). AreRefusedTexts aim.Run g) same.1 (subst (λ (k : Aim). AreRefusedTexts k given) t refused)))

  pub plan_refused_all : (command : Command) (given : Sources) (line : List ℕ) → Gives o.shelf old.shelf (with_run words) command given → IsPlanRefused given.s_define given.input line → EndsWith status 3
  plan_refused_all command given line gives refused =
      let same = one_source command given gives in
      absurd ((one ran.begins.given.s_define ran.begins.given.input).accepted ran.plan line ran.begins.ready (subst (λ (g : Sources). IsPlanRefused g.s_define g.input line) same.1 refused))

  pub journal_length_all : (command : Command) (given : Sources) → Gives o.shelf old.shelf (with_run words) command given → IsMisfitIn given → EndsWith status 7
  journal_length_all command given gives bad =
      let same = one_source command given gives in
      absurd (no_journal bad.text (sym (ap (λ (g : Sources). g.journal) same.1) ∙ bad.replays))

  -- the run came to its end, unless there was no memory
  ended_so : (ended : Result Summary Stop) → ended ≡ ran.served.ended → (ended ≡ Err stop.Shelf → ⊥) → IsEnd aim.Run (status_of (served_verdict ended ran.served.sessions false))
  ended_so (Ok ended) is quiet = ended_is_end ended.faults
  ended_so (Err stop.Shelf) is quiet = absurd (quiet refl)
  ended_so (Err stop.Memory) is quiet = inr (inr refl)

  same_status : (ended : Result Summary Stop) (sessions : ℕ) (one other : Bool) → status_of (served_verdict ended sessions one) ≡ status_of (served_verdict ended sessions other)
  same_status (Ok ended) sessions one other = refl
  same_status (Err stop.Shelf) sessions one other = refl
  same_status (Err stop.Memory) sessions one other = refl

  pub complete : (command : Command) (given : Sources) → Gives o.shelf old.shelf (with_run words) command given → (Rose (o.shelf.failures old.shelf) (o.shelf.failures new.shelf) → ⊥)
      → (Rose (sink.failures before) (sink.failures now) → ⊥) → IsEnd (aim_of command) status
  complete command given gives quiet whole =
      let same = one_source command given gives in
      let t : aim_of command ≡ aim.Run = ap aim_of same.0 ∙ task_is in
      let end : IsEnd aim.Run (status_of ran.verdict) =
      subst (IsEnd aim.Run) (same_status ran.served.ended ran.served.sessions false door_failed ∙ sym (ap status_of ran.served.told))
      (ended_so ran.served.ended refl (λ is. quiet (rose is))) in
      subst (λ (k : Aim). IsEnd k status) (sym t)
      (elim so.result [
        | inl both ↦ subst (IsEnd aim.Run) (sym both.0) end
        | inr (inl short) ↦ inr (inr short)
        | inr (inr failed) ↦ absurd (whole (sink_fault failed))
      ])
