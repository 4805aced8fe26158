-- What the calls of a run leave that stopped.
use Rattle.std.proofs.Common.{◌≡◌, ◌∙◌, ℕ, List, [], ◌∷◌, ◌++◌, Some, false, ap, append-nil, append_assoc, inl, inr, refl, subst, sym}
use Rattle.std.specs.FinMap.{get}
use Rattle.std.specs.Prelude.{Option, codes, flat_map}
use Rattle.trick_base.proofs.ContentLemmas.{content-append, get-all_written, partly}
use Rattle.trick_base.proofs.WriteLemmas.{front_of_early, front_of_late}
use Rattle.trick_base.specs.Content.{IsKept, IsPartly, IsTidy, content, same_name}
use Rattle.trick_base.specs.Files.{Append, Create, Files, Write, all_written}
use Rattle.trick_base.specs.Fronts.{IsFrontOf, IsPrefix}
use Rattle.trick_model.specs.Checkpoint.{checkpoint_text, faults_text}
use Rattle.trick_model.specs.Files.{end_writes, journal_name, run_writes, start_writes, turns_said, turns_writes}
use Rattle.trick_model.specs.Journal.{first_lines, last_line}
use Rattle.trick_model.specs.Laws.{FittingLasts, OneRun}
use Rattle.trick_model.specs.Plan.{Plan}
use Rattle.trick_model.specs.Records.{header, log_name}
use Rattle.trick_model.specs.Run.{Fits, Lasts, after_turns, final, opened, shut}
use Rattle.trick_model.specs.Session.{Message}
use Rattle.trick_model.specs.State.{State, World}
use Rattle.trick_model.specs.Turn.{file_writes}
use Rattle.trick_model.specs.declared.entry.Entry.{Entry}
use Rattle.trick_model.specs.declared.group.Group.{Group}
use Rattle.trick_outside.specs.Calls.{AllLeave, Call}
use Rattle.trick_model_remainder.proofs.Contents.{kept_adds}
use Rattle.trick_model_remainder.proofs.Ends.{journal_is_no_checkpoint, starts_journal}
use Rattle.trick_model_remainder.proofs.Turns.{turns_kept}
use Rattle.trick_model_remainder.specs.Remainder.{added}
use Rattle.trick_exec_laws.proofs.Lasting.{AllOn, lasts_front, lasts_said}
use Rattle.trick_exec_laws.proofs.Cuts.{InTurns, all_turns, cut_noted, in_last, noted_on}
use Rattle.trick_exec_laws.proofs.Fronts.{InTwo, NoneOf, in_two, none_content, none_front}
use Rattle.trick_exec_laws.proofs.Notes.{journal_is_no_log}
use Rattle.trick_exec_laws.proofs.Others.{headers_none}
use Rattle.trick_exec_laws.proofs.Same.{fits_same, said_same, worlds_same, writes_same}
use Rattle.trick_exec_laws.proofs.Stops.{all_of_steps, front_of_steps, joined, leave_split, turn_leaves}
use Rattle.trick_exec_laws.specs.Left.{HasLines, IsCutOf, Left, begun, ended, lines, journal_lists, untouched}
use Rattle.trick_exec_meaning.specs.Stops.{StopsAt, at_end, before as at_start, between, in_turn}
use Rattle.trick_exec_tic.specs.Steps.{steps_of}

-- What a part of the writes of a run makes of its files, where these messages were handed over.
pub record Leaves (p : Plan) (s : State) (lists : List (List Entry)) (sent : List Message) (part : List Write) : Type 0 where
  pub cut : List (List Entry)
  pub torn : List ℕ
  pub is_cut : IsCutOf p (opened s) cut torn lists
  pub journal : (before : Option (List ℕ)) → HasLines p s lists cut torn before (content journal_name part before)
  pub files : (more : List (List Entry)) (end : World) → Lasts p (opened s) cut more end → (name : List ℕ) (before : Option (List ℕ))
      → same_name name journal_name ≡ false → IsTidy name (run_writes p s more)
      → IsPartly before (content name part before) (content name (run_writes p s more) before)
  pub said : (more : List (List Entry)) (end : World) → Lasts p (opened s) cut more end
      → (rest : List Message) × (turns_said p (opened s) more ≡ sent ++ rest)

-- the run under other lists begins as this
start_front : (p : Plan) (s : State) (more : List (List Entry)) (part : List Write) → IsFrontOf part (start_writes p s.turn) → IsFrontOf part (run_writes p s more)
start_front p s more part is =
    front_of_early part (start_writes p s.turn ++ turns_writes p (opened s) more) (end_writes p (final p s more))
    (front_of_early part (start_writes p s.turn) (turns_writes p (opened s) more) is)

-- ---- in its first files

log_writes : Plan → List Group → List Write
log_writes p groups = flat_map (λ (group : Group). file_writes (log_name group) (header p group)) groups

logs_none : (p : Plan) (groups : List Group) → NoneOf journal_name (log_writes p groups)
unfolding log_writes
logs_none p groups = headers_none journal_name journal_is_no_log p groups

-- the journal among them
abbrev IsBegun : Plan → State → List Write → Type 0
IsBegun p s part = (before : Option (List ℕ)) → HasLines p s [] [] [] before (content journal_name part before)

behind_first : (p : Plan) (s : State) (part : List Write) → IsFrontOf part (log_writes p p.groups)
    → IsBegun p s (Create journal_name ∷ Append journal_name (first_lines s.turn) ∷ part)
behind_first p s part is before =
    subst (HasLines p s [] [] [] before)
    (sym (none_content journal_name part (Some (first_lines s.turn)) (none_front journal_name part (log_writes p p.groups) is (logs_none p p.groups))))
    (begun before (first_lines s.turn) ([], sym (append-nil (first_lines s.turn))))

in_first : (p : Plan) (s : State) (part : List Write)
    → IsFrontOf part (Append journal_name (first_lines s.turn) ∷ log_writes p p.groups) → IsBegun p s (Create journal_name ∷ part)
in_first p s [] is = λ before. begun before [] (first_lines s.turn, refl)
in_first p s (write ∷ part) (inl is) =
    subst (λ (w : Write). IsBegun p s (Create journal_name ∷ w ∷ part)) (sym is.0) (behind_first p s part is.1)
in_first p s (Create name ∷ part) (inr is) = absurd is.0
in_first p s (Append name bytes ∷ part) (inr is) =
    subst (λ (ws : List Write). IsBegun p s (Create journal_name ∷ Append name bytes ∷ ws)) (sym is.1)
    (subst (λ (n : List ℕ). IsBegun p s (Create journal_name ∷ Append n bytes ∷ [])) (sym is.0.0)
    (λ before. begun before bytes is.0.1))

in_start : (p : Plan) (s : State) (part : List Write)
    → IsFrontOf part (Create journal_name ∷ Append journal_name (first_lines s.turn) ∷ log_writes p p.groups) → IsBegun p s part
in_start p s [] is = λ before. untouched before
in_start p s (write ∷ part) (inl is) =
    subst (λ (w : Write). IsBegun p s (w ∷ part)) (sym is.0) (in_first p s part is.1)
in_start p s (Create name ∷ part) (inr is) = absurd is.0
in_start p s (Append name bytes ∷ part) (inr is) = absurd is.0

leaves_start : (p : Plan) (s : State) (part : List Write) → IsFrontOf part (start_writes p s.turn) → Leaves p s [] [] part
unfolding log_writes
leaves_start p s part is = record {
  cut = [];
  torn = [];
  is_cut = inl (refl, refl);
  journal = in_start p s part is;
  files = λ more end lasts name before other tidy. partly name part (run_writes p s more) before tidy (start_front p s more part is);
  said = λ more end lasts. (turns_said p (opened s) more, refl);
}

-- ---- in its turns

-- the journal after its first lines
behind_start : (p : Plan) (s : State) (part : List Write) (before : Option (List ℕ)) → IsKept journal_name part
    → content journal_name (start_writes p s.turn ++ part) before ≡ Some (first_lines s.turn ++ added journal_name part)
behind_start p s part before kept =
    content-append journal_name (start_writes p s.turn) part before
    ∙ ap (content journal_name part) (starts_journal p s.turn before) ∙ kept_adds journal_name part (first_lines s.turn) kept

leaves_turns : (p : Plan) (s : State) (lists : List (List Entry)) (sent : List Message) (part rest : List Write) → part ≡ start_writes p s.turn ++ rest
    → InTurns p (opened s) lists sent rest → Leaves p s lists sent part
leaves_turns p s lists sent part rest all so =
    let first = start_writes p s.turn in
    let cut = journal_lists p (opened s) so.cut in
    let same = writes_same p (opened s) so.cut in
    record {
      cut = cut;
      torn = so.torn;
      is_cut = cut_noted p (opened s) so.cut lists so.torn so.is_cut;
      journal = λ before.
          subst (HasLines p s lists cut so.torn before)
          (sym (ap (λ (ws : List Write). content journal_name ws before) all ∙ behind_start p s rest before so.kept
          ∙ ap (λ (bs : List ℕ). Some (first_lines s.turn ++ bs)) (so.adds ∙ ap (λ (ws : List Write). added journal_name ws ++ so.torn) (sym same))))
          (lines lists cut so.torn before);
      files = λ more end lasts name before other tidy. (
          let behind = lasts_front p (opened s) cut more end (noted_on p (opened s) so.cut so.goes) lasts in
          let front : IsFrontOf (first ++ so.same) (run_writes p s more) =
          front_of_early (first ++ so.same) (first ++ turns_writes p (opened s) more) (end_writes p (final p s more))
          (front_of_late first so.same (turns_writes p (opened s) more)
          (subst (IsFrontOf so.same) (sym behind.1) (front_of_early so.same (turns_writes p (opened s) cut) behind.0
          (subst (IsFrontOf so.same) (sym same) so.is_same)))) in
          subst (λ (o : Option (List ℕ)). IsPartly before o (content name (run_writes p s more) before))
          (content-append name first so.same before ∙ sym (so.others name (content name first before) other)
          ∙ sym (content-append name first rest before) ∙ sym (ap (λ (ws : List Write). content name ws before) all))
          (partly name (first ++ so.same) (run_writes p s more) before tidy front)
          );
      said = λ more end lasts. (
          let behind = lasts_said p (opened s) cut more end (noted_on p (opened s) so.cut so.goes) tt lasts in (
            so.unsent ++ behind.0,
            behind.1 ∙ ap (λ (said : List Message). said ++ behind.0) (said_same p (opened s) so.cut ∙ so.said)
                ∙ append_assoc sent so.unsent behind.0,
          )
          );
    }

-- ---- in its last files

abbrev last_files : Plan → State → List Write
last_files p s = file_writes (codes "final.chk") (checkpoint_text p s) ++ file_writes (codes "faults.txt") (faults_text p s.faults)

last_journal : (p : Plan) (s : State) (rest : List Write) (held : List ℕ) → IsFrontOf rest (Append journal_name (last_line s.turn) ∷ [])
    → (last : List ℕ) × IsPrefix last (last_line s.turn) × (content journal_name rest (Some held) ≡ Some (held ++ last))
last_journal p s [] held is = ([], (last_line s.turn, refl), ap Some (sym (append-nil held)))
last_journal p s (write ∷ []) held (inl is) =
    (last_line s.turn, ([], sym (append-nil (last_line s.turn))), ap (λ (w : Write). content journal_name (w ∷ []) (Some held)) is.0)
last_journal p s (write ∷ other ∷ rest) held (inl is) = absurd is.1
last_journal p s (Create name ∷ rest) held (inr is) = absurd is.0
last_journal p s (Append name bytes ∷ rest) held (inr is) = (
  bytes,
  is.0.1,
  ap (λ (ws : List Write). content journal_name (Append name bytes ∷ ws) (Some held)) is.1
      ∙ ap (λ (n : List ℕ). content journal_name (Append n bytes ∷ []) (Some held)) is.0.0,
)

end_journal : (p : Plan) (s : State) (rest : List Write) (held : List ℕ) → IsFrontOf rest (end_writes p s)
    → (last : List ℕ) × IsPrefix last (last_line s.turn) × (content journal_name rest (Some held) ≡ Some (held ++ last))
end_journal p s rest held is = by (in_two rest (last_files p s) (Append journal_name (last_line s.turn) ∷ []) is)
  where
    none : NoneOf journal_name (last_files p s)
    none = (refl, (refl, (refl, (refl, tt))))

    by : InTwo rest (last_files p s) (Append journal_name (last_line s.turn) ∷ [])
        → (last : List ℕ) × IsPrefix last (last_line s.turn) × (content journal_name rest (Some held) ≡ Some (held ++ last))
    by (inl first) = (
      [],
      (last_line s.turn, refl),
      none_content journal_name rest (Some held) (none_front journal_name rest (last_files p s) first none) ∙ ap Some (sym (append-nil held)),
    )
    by (inr (more, all, is)) =
        let so = last_journal p s more held is in (
          so.0,
          so.1,
          ap (λ (ws : List Write). content journal_name ws (Some held)) all
              ∙ content-append journal_name (last_files p s) more (Some held)
              ∙ ap (content journal_name more) (none_content journal_name (last_files p s) (Some held) none) ∙ so.2,
        )

leaves_end : (p : Plan) (s : State) (lists : List (List Entry)) (part rest : List Write) → OneRun → FittingLasts → Fits p s lists
    → part ≡ (start_writes p s.turn ++ turns_writes p (opened s) lists) ++ rest → IsFrontOf rest (end_writes p (final p s lists))
    → Leaves p s lists (turns_said p (opened s) lists) part
leaves_end p s lists part rest one fitting fits all is =
    let first = start_writes p s.turn in
    let turns = turns_writes p (opened s) lists in
    let cut = journal_lists p (opened s) lists in
    record {
      cut = cut;
      torn = [];
      is_cut = inl (refl, refl);
      journal = λ before. (
          let so = end_journal p (final p s lists) rest (first_lines s.turn ++ added journal_name turns) is in
          subst (HasLines p s lists cut [] before)
          (sym (ap (λ (ws : List Write). content journal_name ws before) all ∙ content-append journal_name (first ++ turns) rest before
          ∙ ap (content journal_name rest) (behind_start p s turns before (turns_kept journal_name p (opened s) lists journal_is_no_checkpoint))
          ∙ so.2 ∙ ap Some (append_assoc (first_lines s.turn) (added journal_name turns) so.0)
          ∙ ap (λ (ws : List Write). Some (first_lines s.turn ++ (added journal_name ws ++ so.0))) (sym (writes_same p (opened s) lists))))
          (ended lists before so.0 fits so.1)
          );
      files = λ more end lasts name before other tidy.
          partly name part (run_writes p s more) before tidy (subst (λ (ls : List (List Entry)). IsFrontOf part (run_writes p s ls)) (is_run more end lasts) whole);
      said = λ more end lasts. (
        [],
        ap (turns_said p (opened s)) (sym (is_run more end lasts)) ∙ said_same p (opened s) lists ∙ sym (append-nil (turns_said p (opened s) lists)),
      );
    }
  where
    -- the run under what was noted is that of the lists
    is_run : (more : List (List Entry)) (end : World) → Lasts p (opened s) (journal_lists p (opened s) lists) more end → journal_lists p (opened s) lists ≡ more
    is_run more end lasts =
        let cut = journal_lists p (opened s) lists in
        (one p (opened s) (after_turns p (opened s) cut) end cut cut more (fitting p s cut (fits_same p s lists fits)) lasts).0

    same_run : run_writes p s lists ≡ run_writes p s (journal_lists p (opened s) lists)
    same_run =
        ap (λ (ws : List Write). start_writes p s.turn ++ ws ++ end_writes p (final p s lists)) (sym (writes_same p (opened s) lists))
        ∙ ap (λ (w : World). start_writes p s.turn ++ turns_writes p (opened s) (journal_lists p (opened s) lists) ++ end_writes p (shut p w.state))
        (sym (worlds_same p (opened s) lists))

    whole : IsFrontOf part (run_writes p s (journal_lists p (opened s) lists))
    whole =
        subst (IsFrontOf part) same_run
        (subst (λ (ws : List Write). IsFrontOf ws (run_writes p s lists)) (sym all)
        (front_of_late (start_writes p s.turn ++ turns_writes p (opened s) lists) rest (end_writes p (final p s lists)) is))

-- ---- anywhere

-- What the calls of a run leave that was given these lists, and handed over these messages.
pub record RunLeaves (p : Plan) (s : State) (lists : List (List Entry)) (sent : List Message) (files now : Files) : Type 0 where
  pub part : List Write
  pub is : now ≡ all_written part files
  pub so : Leaves p s lists sent part

run_leaves : (p : Plan) (s : State) (lists : List (List Entry)) (calls : List Call) (sent : List Message) → OneRun → FittingLasts → AllOn p (opened s) lists
    → StopsAt p s (start_writes p s.turn) lists calls sent → (files now : Files) → AllLeave calls files now → RunLeaves p s lists sent files now
run_leaves p s lists calls sent one fitting goes (at_start early is) files now left =
    let so = front_of_steps early (start_writes p s.turn) files now is left in
    record { part = so.0; is = so.2; so = leaves_start p s so.0 so.1 }
run_leaves p s lists calls sent one fitting goes (between given) files now left =
    let first = start_writes p s.turn in
    let turns = turns_writes p (opened s) given in
    record {
      part = first ++ turns;
      is = all_of_steps (first ++ turns) files now left;
      so = leaves_turns p s given (turns_said p (opened s) given) (first ++ turns) turns refl (all_turns p (opened s) given goes);
    }
run_leaves p s lists calls sent one fitting goes (in_turn most entries later said stops) files now left =
    let first = start_writes p s.turn in
    let turns = turns_writes p (opened s) most in
    let split = leave_split (steps_of (first ++ turns)) later files now left in
    let so = turn_leaves p (after_turns p (opened s) most) entries later said split.0 now stops split.2 in
    record {
      part = (first ++ turns) ++ so.part;
      is = joined (first ++ turns) so.part files split.0 now (all_of_steps (first ++ turns) files split.0 split.1) so.is;
      so = leaves_turns p s (most ++ entries ∷ []) (turns_said p (opened s) most ++ said) ((first ++ turns) ++ so.part) (turns ++ so.part)
          (append_assoc first turns so.part) (in_last p (opened s) most entries said so.part goes so.so);
    }
run_leaves p s lists calls sent one fitting goes (at_end given later fits is) files now left =
    let first = start_writes p s.turn in
    let turns = turns_writes p (opened s) given in
    let split = leave_split (steps_of (first ++ turns)) later files now left in
    let so = front_of_steps later (end_writes p (final p s given)) split.0 now is split.2 in
    record {
      part = (first ++ turns) ++ so.0;
      is = joined (first ++ turns) so.0 files split.0 now (all_of_steps (first ++ turns) files split.0 split.1) so.2;
      so = leaves_end p s given ((first ++ turns) ++ so.0) so.0 one fitting fits refl so.1;
    }

-- where turns say nothing, nothing was handed over
none_sent : (p : Plan) (s : State) (lists : List (List Entry)) (sent unsent : List Message) → turns_said p (opened s) lists ≡ sent ++ unsent → lists ≡ [] → sent ≡ []
none_sent p s lists sent unsent handed none = first_of sent unsent (sym handed ∙ ap (turns_said p (opened s)) none)
  where
    first_of : (early late : List Message) → early ++ late ≡ [] → early ≡ []
    first_of [] late e = refl
    first_of (message ∷ early) late e = cc e

pub left_of_calls : (p : Plan) (s : State) (lists : List (List Entry)) (calls : List Call) (sent unsent : List Message) → OneRun → FittingLasts
    → AllOn p (opened s) lists → turns_said p (opened s) lists ≡ sent ++ unsent → StopsAt p s (start_writes p s.turn) lists calls sent
    → (before now : Files) → AllLeave calls before now → Left p s lists sent before now
left_of_calls p s lists calls sent unsent one fitting goes handed stops before now left =
    let all = run_leaves p s lists calls sent one fitting goes stops before now left in
    let so = all.so in
    let holds : (name : List ℕ) → content name all.part (get before name) ≡ get now name =
    λ name. sym (get-all_written name all.part before) ∙ ap (λ (files : Files). get files name) (sym all.is) in
    record {
      cut = so.cut;
      torn = so.torn;
      is_cut = so.is_cut;
      journal = subst (HasLines p s lists so.cut so.torn (get before journal_name)) (holds journal_name) (so.journal (get before journal_name));
      files = λ more end lasts name other tidy.
          subst (λ (o : Option (List ℕ)). IsPartly (get before name) o (content name (run_writes p s more) (get before name)))
          (holds name) (so.files more end lasts name (get before name) other tidy);
      said = so.said;
      unsaid = none_sent p s lists sent unsent handed;
    }
