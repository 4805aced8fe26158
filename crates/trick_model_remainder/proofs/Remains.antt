-- The files of the whole run, and those of the run that goes on.
use Rattle.std.proofs.Common.{◌≡◌, ◌∙◌, ℕ, ◌-◌, ◌<◌, ◌≤◌, List, [], ◌++◌, false, Some, ap, append_assoc, subst, sym}
use Rattle.std.specs.Prelude.{All, Option, codes}
use Rattle.trick_base.proofs.ContentLemmas.{content-append}
use Rattle.trick_base.specs.Content.{content, same_name, IsKept}
use Rattle.trick_base.specs.Files.{Write}
use Rattle.trick_model.specs.Files.{end_writes, journal_name, run_writes, start_writes, turns_writes}
use Rattle.trick_model.specs.Journal.{Noted, first_lines, last_line, lists_from, live_before, with_joins}
use Rattle.trick_model.specs.Laws.{JoinsAreNoted, RunsContinue, SessionsDoNotMatter}
use Rattle.trick_model.specs.Plan.{Plan}
use Rattle.trick_model.specs.PlanOf.{plan_of}
use Rattle.trick_model.specs.Records.{header, log_name}
use Rattle.trick_model.specs.Run.{Fits, final, is_over, lists_of, opened, shut}
use Rattle.trick_model.specs.State.{State}
use Rattle.trick_model.specs.declared.entry.Entry.{Entry}
use Rattle.trick_model.specs.declared.group.Group.{Group}
use Rattle.trick_model_remainder.proofs.Contents.{kept_adds, made_forgets}
use Rattle.trick_model_remainder.proofs.Ends.{IsBegun, end_faults, end_final, end_journal, end_log, journal_is_no_checkpoint, log_is_no_checkpoint, log_is_no_journal, starts_journal, starts_logs}
use Rattle.trick_model_remainder.proofs.Joins.{are_joined, joins_are_lines, joins_leave, lines_for}
use Rattle.trick_model_remainder.proofs.Lists.{cut, joins_came, joins_come}
use Rattle.trick_model_remainder.proofs.Turns.{turns_kept}
use Rattle.trick_model_remainder.specs.Remainder.{IsJournalRest, IsLogRest, RemaindersAreWritten, added, early_lists, early_writes, late_lists, late_writes, lists_after, resumed_file, state_at, whole_file}

-- A file after writes in four parts, one after another.
four : (name : List ℕ) (one two three last : List Write) (before : Option (List ℕ))
    → content name (one ++ two ++ three ++ last) before ≡ content name last (content name three (content name two (content name one before)))
four name one two three last before =
    content-append name (one ++ two ++ three) last before
    ∙ ap (content name last) (content-append name (one ++ two) three before
    ∙ ap (content name three) (content-append name one two before))

three : (name : List ℕ) (one two last : List Write) (before : Option (List ℕ))
    → content name (one ++ two ++ last) before ≡ content name last (content name two (content name one before))
three name one two last before =
    content-append name (one ++ two) last before ∙ ap (content name last) (content-append name one two before)

-- What is known of the two runs: the whole one, in four parts, and the one that goes on, in three.
record AreRuns (p : Plan) (s : State) (entries : List Noted) (end turn : ℕ) : Type 0 where
  joined : lists_after p s entries end turn ≡ with_joins (live_before turn entries []) (late_lists entries end turn)
  fits : Fits p (state_at p s entries turn) (lists_after p s entries end turn)
  ends : final p (state_at p s entries turn) (lists_after p s entries end turn) ≡ final p s (lists_of entries end s.turn s.mode)
  whole : run_writes p s (lists_of entries end s.turn s.mode)
      ≡ start_writes p s.turn ++ early_writes p s entries turn ++ late_writes p s entries end turn
      ++ end_writes p (final p s (lists_of entries end s.turn s.mode))

are_runs : RunsContinue → SessionsDoNotMatter → JoinsAreNoted → (p : Plan) (s : State) (entries : List Noted) (end turn : ℕ) → s.turn < turn → turn ≤ end
    → Fits p s (lists_of entries end s.turn s.mode) → AreRuns p s entries end turn
are_runs runs law joins p s entries end turn one other fits =
    let early = early_lists entries s.turn turn in
    let late = late_lists entries end turn in
    let live = live_before turn entries [] in
    let cuts =
    joins_came p (opened s) (live_before s.turn entries []) (lists_from s.turn (end - s.turn) entries) fits.goes ∙ cut entries s.turn turn end one other in
    let goes = runs p s early late (subst (λ (lists : List (List Entry)). Fits p s lists) cuts fits) in
    let after = state_at p s entries turn in
    let joined = are_joined law joins p after live late in
    let given : lists_after p s entries end turn ≡ with_joins live late = joins_come p (opened after) live late goes.fits.goes in
    let same : final p s (early ++ late) ≡ final p s (lists_of entries end s.turn s.mode) = ap (λ (lists : List (List Entry)). final p s lists) (sym cuts) in
    record {
      joined = given;
      fits = subst (Fits p after) (sym given)
          (record { goes = joined.goes goes.fits.goes; over = ap (λ (t : State). is_over t []) joined.state ∙ goes.fits.over });
      ends =
          ap (λ (lists : List (List Entry)). final p after lists) given ∙ ap (λ (t : State). shut p t) joined.state
          ∙ sym goes.ends ∙ same;
      whole =
          ap (λ (lists : List (List Entry)). run_writes p s lists) cuts ∙ goes.writes
          ∙ ap (λ (t : State). start_writes p s.turn ++ early_writes p s entries turn ++ late_writes p s entries end turn ++ end_writes p t)
          (sym goes.ends ∙ same);
    }

-- the last state of the whole run
abbrev last_of : Plan → State → List Noted → ℕ → State
last_of p s entries end = final p s (lists_of entries end s.turn s.mode)

-- what a file is before the last files are written, in either run
abbrev before_end : Plan → State → List Noted → (end turn : ℕ) → List ℕ → Option (List ℕ) → Option (List ℕ)
before_end p s entries end turn name before =
    content name (late_writes p s entries end turn) (content name (early_writes p s entries turn) (content name (start_writes p s.turn) before))

abbrev before_resumed_end : Plan → State → List Noted → (end turn : ℕ) → List ℕ → Option (List ℕ) → Option (List ℕ)
before_resumed_end p s entries end turn name before =
    let after = state_at p s entries turn in
    content name (turns_writes p (opened after) (lists_after p s entries end turn)) (content name (start_writes p after.turn) before)

-- a file of the whole run
whole_is : (p : Plan) (s : State) (entries : List Noted) (end turn : ℕ) → AreRuns p s entries end turn → (name : List ℕ) (before : Option (List ℕ))
    → whole_file p s entries end name before
    ≡ content name (end_writes p (last_of p s entries end)) (content name (late_writes p s entries end turn)
    (content name (early_writes p s entries turn) (content name (start_writes p s.turn) before)))
whole_is p s entries end turn are name before =
    ap (λ (writes : List Write). content name writes before) are.whole
    ∙ four name (start_writes p s.turn) (early_writes p s entries turn) (late_writes p s entries end turn) (end_writes p (last_of p s entries end)) before

-- a file of the run that goes on
resumed_is : (p : Plan) (s : State) (entries : List Noted) (end turn : ℕ) → AreRuns p s entries end turn → (name : List ℕ) (before : Option (List ℕ))
    → resumed_file p s entries end turn name before
    ≡ content name (end_writes p (last_of p s entries end))
    (content name (turns_writes p (opened (state_at p s entries turn)) (lists_after p s entries end turn))
    (content name (start_writes p (state_at p s entries turn).turn) before))
resumed_is p s entries end turn are name before =
    let after = state_at p s entries turn in
    let lists = lists_after p s entries end turn in
    three name (start_writes p after.turn) (turns_writes p (opened after) lists) (end_writes p (final p after lists)) before
    ∙ ap (λ (t : State). content name (end_writes p t) (content name (turns_writes p (opened after) lists) (content name (start_writes p after.turn) before)))
    are.ends

-- where it is not the journal, the joins do not count
resumed_other : SessionsDoNotMatter → JoinsAreNoted → (p : Plan) (s : State) (entries : List Noted) (end turn : ℕ) → AreRuns p s entries end turn
    → (name : List ℕ) (before : Option (List ℕ)) → same_name name journal_name ≡ false
    → resumed_file p s entries end turn name before
    ≡ content name (end_writes p (last_of p s entries end)) (content name (late_writes p s entries end turn)
    (content name (start_writes p (state_at p s entries turn).turn) before))
resumed_other law joins p s entries end turn are name before other =
    resumed_is p s entries end turn are name before
    ∙ ap (λ (lists : List (List Entry)). content name (end_writes p (last_of p s entries end))
    (content name (turns_writes p (opened (state_at p s entries turn)) lists)
    (content name (start_writes p (state_at p s entries turn).turn) before)))
    are.joined
    ∙ ap (content name (end_writes p (last_of p s entries end)))
    (joins_leave law joins p (state_at p s entries turn) (live_before turn entries []) (late_lists entries end turn) name _ other)

-- ---- logs

log_rest : SessionsDoNotMatter → JoinsAreNoted → (p : Plan) (s : State) (entries : List Noted) (end turn : ℕ) → AreRuns p s entries end turn → (group : Group)
    → IsBegun p (start_writes p s.turn) group → IsBegun p (start_writes p (state_at p s entries turn).turn) group → IsLogRest p s entries end turn group
log_rest law joins p s entries end turn are group begun again =
    let name = log_name group in
    let early = early_writes p s entries turn in
    let late = late_writes p s entries end turn in
    let ends = end_writes p (last_of p s entries end) in
    let late_kept : IsKept name late = turns_kept name p _ (late_lists entries end turn) (log_is_no_checkpoint group) in
    record {
      whole = λ before.
          whole_is p s entries end turn are name before
          ∙ ap (λ (held : Option (List ℕ)). content name ends (content name late (content name early held))) (begun before)
          ∙ ap (λ (held : Option (List ℕ)). content name ends (content name late held))
          (kept_adds name early (header p group) (turns_kept name p (opened s) (early_lists entries s.turn turn) (log_is_no_checkpoint group)))
          ∙ ap (content name ends) (kept_adds name late (header p group ++ added name early) late_kept)
          ∙ end_log p (last_of p s entries end) group _
          ∙ ap Some (append_assoc (header p group) (added name early) (added name late));
      resumed = λ before.
          resumed_other law joins p s entries end turn are name before (log_is_no_journal group)
          ∙ ap (λ (held : Option (List ℕ)). content name ends (content name late held)) (again before)
          ∙ ap (content name ends) (kept_adds name late (header p group) late_kept)
          ∙ end_log p (last_of p s entries end) group _;
    }

all_of_two : (P Q R : Group → Type 0) → ((group : Group) → P group → Q group → R group) → (groups : List Group) → All P groups → All Q groups → All R groups
all_of_two P Q R step groups one other k d less = step _ (one k d less) (other k d less)

-- ---- the journal

journal_rest : SessionsDoNotMatter → JoinsAreNoted → (p : Plan) (s : State) (entries : List Noted) (end turn : ℕ) → AreRuns p s entries end turn
    → IsJournalRest p s entries end turn
journal_rest law joins p s entries end turn are =
    let after = state_at p s entries turn in
    let live = live_before turn entries [] in
    let lists = with_joins live (late_lists entries end turn) in
    let early = early_writes p s entries turn in
    let late = late_writes p s entries end turn in
    let last = last_of p s entries end in
    let ends = end_writes p last in
    let lines = lines_for after.turn live (late_lists entries end turn) in
    let first = first_lines s.turn in
    let again = first_lines after.turn in
    let more : List Write = turns_writes p (opened after) lists in
    record {
      whole = λ before.
          whole_is p s entries end turn are journal_name before
          ∙ ap (λ (held : Option (List ℕ)). content journal_name ends (content journal_name late (content journal_name early held))) (starts_journal p s.turn before)
          ∙ ap (λ (held : Option (List ℕ)). content journal_name ends (content journal_name late held))
          (kept_adds journal_name early first (turns_kept journal_name p (opened s) (early_lists entries s.turn turn) journal_is_no_checkpoint))
          ∙ ap (content journal_name ends)
          (kept_adds journal_name late (first ++ added journal_name early) (turns_kept journal_name p (opened after) (late_lists entries end turn) journal_is_no_checkpoint))
          ∙ end_journal p last (first ++ added journal_name early ++ added journal_name late)
          ∙ ap Some (append_assoc (first ++ added journal_name early) (added journal_name late) (last_line last.turn)
          ∙ append_assoc first (added journal_name early) (added journal_name late ++ last_line last.turn));
      resumed = λ before.
          resumed_is p s entries end turn are journal_name before
          ∙ ap (λ (ls : List (List Entry)). content journal_name ends
          (content journal_name (turns_writes p (opened after) ls) (content journal_name (start_writes p after.turn) before))) are.joined
          ∙ ap (λ (held : Option (List ℕ)). content journal_name ends (content journal_name more held)) (starts_journal p after.turn before)
          ∙ ap (content journal_name ends) (kept_adds journal_name more again (turns_kept journal_name p (opened after) lists journal_is_no_checkpoint))
          ∙ end_journal p last (again ++ added journal_name more)
          ∙ ap Some (append_assoc again (added journal_name more) (last_line last.turn)
          ∙ ap (λ x. again ++ (x ++ last_line last.turn)) (joins_are_lines law joins p after live (late_lists entries end turn))
          ∙ ap (λ x. again ++ x) (append_assoc lines (added journal_name late) (last_line last.turn)));
    }

-- ---- the whole

pub remains : RunsContinue → SessionsDoNotMatter → JoinsAreNoted → RemaindersAreWritten
remains runs law joins plan s entries end turn one other fits =
    let p = plan_of plan in
    let are = are_runs runs law joins p s entries end turn one other fits in
    let after = state_at p s entries turn in
    record {
      fits = are.fits;
      ends = are.ends;
      logs = all_of_two (IsBegun p (start_writes p s.turn)) (IsBegun p (start_writes p after.turn)) (IsLogRest p s entries end turn)
          (log_rest law joins p s entries end turn are) p.groups (starts_logs p s.turn plan.groups_differ) (starts_logs p after.turn plan.groups_differ);
      journal = journal_rest law joins p s entries end turn are;
      last = λ before later.
          whole_is p s entries end turn are (codes "final.chk") before
          ∙ end_final p (last_of p s entries end) (before_end p s entries end turn (codes "final.chk") before)
          (before_resumed_end p s entries end turn (codes "final.chk") later)
          ∙ sym (resumed_is p s entries end turn are (codes "final.chk") later);
      faults = λ before later.
          whole_is p s entries end turn are (codes "faults.txt") before
          ∙ end_faults p (last_of p s entries end) (before_end p s entries end turn (codes "faults.txt") before)
          (before_resumed_end p s entries end turn (codes "faults.txt") later)
          ∙ sym (resumed_is p s entries end turn are (codes "faults.txt") later);
      checkpoints = λ name before later apart made.
          whole_is p s entries end turn are name before
          ∙ ap (content name (end_writes p (last_of p s entries end)))
          (made_forgets name (late_writes p s entries end turn) made _ _)
          ∙ sym (resumed_other law joins p s entries end turn are name later apart);
    }
