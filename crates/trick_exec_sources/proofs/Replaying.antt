-- From one turn of a replay to the next.
use Rattle.std.proofs.Common.{◌≡◌, ℕ, zero, suc, ◌+◌, ◌-◌, ◌<◌, ◌≤◌, Bool, true, false, cond, List, [], ◌∷◌, ◌++◌, refl, sym, ap, subst, ◌∙◌, arith}
use Rattle.std.proofs.Math.Nat.{sub_self}
use Rattle.std.proofs.lemmas.Bool.Decides.{nat_tests}
use Rattle.std.specs.List.{list_any}
use Rattle.std.specs.Prelude.{◌&&◌, ◌||◌, nat_le, nat_lt, not}
use Rattle.trick_exec_sources.proofs.Coming.{goes_on, rising_of, within_of}
use Rattle.trick_exec_sources.proofs.Joins.{joins_in_lists}
use Rattle.trick_exec_sources.proofs.Joining.{IsJournal, resumed_by, resumed_keeps}
use Rattle.trick_exec_sources.proofs.Lists.{lines_in_lists, lists_resumed, lists_since, sessions_next}
use Rattle.trick_exec_sources.proofs.TurnEntries.{any_split, at_since, before_is_at, none_within, since_since, since_within, within_since}
use Rattle.trick_exec_sources.specs.Due.{before, is_line, joins_at, joins_in, may_go_on, resumed, sessions_at, sessions_so_far, since}
use Rattle.trick_model.specs.Journal.{Noted, entries_at, is_of_session, lists_from, live_before, with_joins}
use Rattle.trick_model.specs.Run.{has_session_entry, lists_of, next_of, rest_of}
use Rattle.trick_model.specs.Time.{last_turn}
use Rattle.trick_model.specs.Turn.{is_frozen}
use Rattle.trick_model.specs.declared.entry.Entry.{Entry}
use Rattle.trick_model.specs.declared.mode.Mode.{Mode}
use Rattle.trick_exec_sources.specs.Joins.{joins_of}
use Rattle.trick_exec_sources.specs.Turns.{Sessions, Told, after_entries, after_lists, in_next, may_all_come, no_sessions}

-- a journal that is told, by its lists and its end
abbrev pub made : List (List Entry) → ℕ → Told
made lists end = record { lists = lists; end = end }

pub told_same : (end : ℕ) (xs ys : List (List Entry)) → xs ≡ ys → made xs end ≡ made ys end
told_same end xs ys same = ap (λ (ls : List (List Entry)). made ls end) same

-- ---- the lists

one_list : (at end : ℕ) → at < end → end - at ≡ suc (end - (at + 1))
one_list at end up = omega arith

pub next_is : (at end : ℕ) (due : List Noted) → at < end → entries_at at due ≡ next_of (lists_from at (end - at) due)
next_is at end due up = sym (ap (λ (n : ℕ). next_of (lists_from at n due)) (one_list at end up))

pub rest_is : (at end : ℕ) (due : List Noted) → at < end
    → lists_from (at + 1) (end - (at + 1)) (since (at + 1) due) ≡ rest_of (lists_from at (end - at) due)
rest_is at end due up =
    let same : at + 1 ≤ at + 1 = omega arith in
    lists_since (at + 1) (at + 1) (end - (at + 1)) same due
    ∙ sym (ap (λ (n : ℕ). rest_of (lists_from at n due)) (one_list at end up))

pub lines_left : (at end : ℕ) (s : Sessions) (due : List Noted) → may_go_on at end s due ≡ true
    → has_session_entry (lists_from at (end - at) due) ≡ list_any is_line due
lines_left at end s due rules =
    let enough : end ≤ at + (end - at) = omega arith in
    lines_in_lists at (end - at) end due enough (within_of at end s due rules)

pub joins_left : (at end : ℕ) (s : Sessions) (due : List Noted) → may_go_on at end s due ≡ true
    → joins_of (lists_from at (end - at) due) ≡ joins_in due
joins_left at end s due rules =
    let enough : end ≤ at + (end - at) = omega arith in
    joins_in_lists at (end - at) end due enough (within_of at end s due rules)

-- ---- the next turn

-- What is known of a replay before a turn.
pub record Stands (over : Bool) (start at end : ℕ) (whole due : List Noted) : Type 0 where
  pub forward : start ≤ at
  pub left : due ≡ since at whole
  pub rules : may_go_on at end (sessions_so_far over start at whole) due ≡ true
  pub behind_end : (not over || nat_le end at) ≡ true

not_over : (over : Bool) (at end : ℕ) → (not over || nat_le end at) ≡ true → at < end → over ≡ false
not_over true at end h up = let bad : end ≤ at = grind (arith, nat_tests) in absurd (omega arith)
not_over false at end h up = refl

pub list_is : (over : Bool) (start at end : ℕ) (whole due : List Noted) → Stands over start at end whole due
    → before (at + 1) due ≡ entries_at at due
list_is over start at end whole due s =
    let now : Sessions = sessions_so_far over start at whole in
    before_is_at at end due (rising_of at end now due s.rules) (within_of at end now due s.rules)

pub list_next : (over : Bool) (start at end : ℕ) (whole due : List Noted) → Stands over start at end whole due → at < end
    → before (at + 1) due ≡ next_of (lists_from at (end - at) due)
list_next over start at end whole due s up = list_is over start at end whole due s ∙ next_is at end due up

pub sessions_step : (over : Bool) (start at end : ℕ) (whole due : List Noted) → Stands over start at end whole due → at < end
    → sessions_so_far over start (at + 1) whole ≡ after_entries (before (at + 1) due) (in_next (sessions_so_far over start at whole))
sessions_step over start at end whole due s up =
    let o = not_over over at end s.behind_end up in
    let same : at ≤ at = omega arith in
    let here = list_is over start at end whole due s ∙ ap (entries_at at) s.left ∙ at_since at at same whole in
    ap (λ (b : Bool). sessions_so_far b start (at + 1) whole) o
    ∙ sessions_next start at whole s.forward
    ∙ ap (λ (l : List Entry). after_entries l (in_next (sessions_at start at whole))) (sym here)
    ∙ ap (λ (b : Bool). after_entries (before (at + 1) due) (in_next (sessions_so_far b start at whole))) (sym o)

pub comes_next : (over : Bool) (start at end : ℕ) (whole due : List Noted) → Stands over start at end whole due
    → may_all_come (before (at + 1) due) (in_next (sessions_so_far over start at whole)) ≡ true
comes_next over start at end whole due s = (goes_on at end (sessions_so_far over start at whole) due s.rules).0

pub stands_next : (over : Bool) (start at end : ℕ) (whole due new : List Noted) → Stands over start at end whole due → at < end
    → new ≡ since (at + 1) due → Stands over start (at + 1) end whole new
stands_next over start at end whole due new s up is =
    let more : at ≤ at + 1 = omega arith in
    let o = not_over over at end s.behind_end up in
    record {
      forward = omega arith;
      left = is ∙ ap (since (at + 1)) s.left ∙ since_since at (at + 1) more whole;
      rules = subst (λ (xs : List Noted). may_go_on (at + 1) end (sessions_so_far over start (at + 1) whole) xs ≡ true) (sym is)
          (subst (λ (now : Sessions). may_go_on (at + 1) end now (since (at + 1) due) ≡ true)
          (sym (sessions_step over start at end whole due s up)) (goes_on at end (sessions_so_far over start at whole) due s.rules).1);
      behind_end = subst (λ (b : Bool). (not b || nat_le end (at + 1)) ≡ true) (sym o) refl;
    }

-- ---- what is owed

pub owes_step : (next : ℕ) (due : List Noted) (frozen owed now : Bool)
    → now ≡ cond (list_any is_of_session (before next due)) false (cond frozen true owed)
    → (frozen ≡ true → list_any is_line due ≡ true) → (not owed || list_any is_line due) ≡ true
    → (not now || list_any is_line (since next due)) ≡ true
owes_step next due frozen owed now is may one =
    subst (λ (b : Bool). (not b || list_any is_line (since next due)) ≡ true) (sym is)
    (go (list_any is_of_session (before next due)) frozen (any_split next due) may one)
  where
    go : (said frozen : Bool) → list_any is_line due ≡ (said || list_any is_line (since next due))
        → (frozen ≡ true → list_any is_line due ≡ true) → (not owed || list_any is_line due) ≡ true
        → (not (cond said false (cond frozen true owed)) || list_any is_line (since next due)) ≡ true
    go true frozen split may one = refl
    go false true split may one = sym split ∙ may refl
    go false false split may one = subst (λ (b : Bool). (not owed || b) ≡ true) split one

-- after a turn without an entry, where a line is left in Freeze, and one is left where one was owed
pub owes_on : (frozen owed now some : Bool) → now ≡ cond frozen true owed → (frozen ≡ true → some ≡ true) → (not owed || some) ≡ true
    → (not now || some) ≡ true
owes_on true owed now some is may one = subst (λ (b : Bool). (not b || some) ≡ true) (sym is) (may refl)
owes_on false owed now some is may one = subst (λ (b : Bool). (not b || some) ≡ true) (sym is) one

pub owes_behind : (at end : ℕ) (s : Sessions) (due : List Noted) (list : List Entry) (frozen owed : Bool)
    → may_go_on at end s due ≡ true → end ≤ at → list ≡ [] → (frozen ≡ true → list_any is_line due ≡ true)
    → owed ≡ cond (list_any is_of_session list) false (cond frozen true owed)
owes_behind at end s due list frozen owed rules up none may =
    go frozen may ∙ sym (ap (λ (l : List Entry). cond (list_any is_of_session l) false (cond frozen true owed)) none)
  where
    nothing : due ≡ []
    nothing = none_within at end due up (within_of at end s due rules)

    go : (b : Bool) → (b ≡ true → list_any is_line due ≡ true) → owed ≡ cond b true owed
    go true may = let bad : false ≡ true = sym (ap (list_any is_line) nothing) ∙ may refl in cc
    go false may = refl

-- no line comes any more, or one is left where no time passes
pub done_then : (frozen some : Bool) → (frozen && not some) ≡ true → (frozen ≡ true) × (some ≡ false)
done_then true false h = (refl, refl)
done_then true true h = cc
done_then false some h = cc

pub done_else : (frozen some : Bool) → (frozen && not some) ≡ false → frozen ≡ true → some ≡ true
done_else true true h f = refl
done_else true false h f = cc
done_else false some h f = cc

-- ---- the start

sessions_first : (start : ℕ) (es : List Noted) → sessions_at start start es ≡ no_sessions
sessions_first start es = ap (λ (n : ℕ). after_lists (lists_from start n es) no_sessions) (sub_self start)

pub stands_first : (start from end : ℕ) (frozen : Bool) (es due whole : List Noted) → IsJournal from end es → end ≤ last_turn
    → due ≡ resumed start end frozen es → whole ≡ due → Stands false start start end whole due
stands_first start from end frozen es due whole j right is same =
    let rules : may_go_on start end no_sessions due ≡ true =
    subst (λ (xs : List Noted). may_go_on start end no_sessions xs ≡ true) (sym is) (resumed_keeps start from end frozen es j right) in
    record {
      forward = omega arith;
      left = sym (since_within start end due (within_of start end no_sessions due rules)) ∙ ap (since start) (sym same);
      rules = subst (λ (now : Sessions). may_go_on start end now due ≡ true) (sym (sessions_first start whole)) rules;
      behind_end = refl;
    }

-- the lists without joins, which have a line where one is left
lists_quiet : (start count : ℕ) (es : List Noted) → lists_from start count (since start es) ≡ lists_from start count es
lists_quiet start count es = let same : start ≤ start = omega arith in lists_since start start count same es

lines_first : (start from end : ℕ) (es : List Noted) → IsJournal from end es
    → has_session_entry (lists_from start (end - start) es) ≡ list_any is_line (since start es)
lines_first start from end es j =
    let enough : end ≤ start + (end - start) = omega arith in
    sym (ap has_session_entry (lists_quiet start (end - start) es))
    ∙ lines_in_lists start (end - start) end (since start es) enough (within_since start from end es j.rising j.within)

-- with no turn left there are no lists, with joins or without
no_turns : (c : Bool) (start count : ℕ) (live : List ℕ) (es : List Noted) → count ≡ 0
    → lists_from start count es ≡ (elim c [ true ↦ lists_from start count es | false ↦ with_joins live (lists_from start count es) ])
no_turns true start count live es none = refl
no_turns false start zero live es none = refl
no_turns false start (suc count) live es none = absurd (omega (arith, none))

pub lists_first : (start from end : ℕ) (begun : Mode) (es due : List Noted) → IsJournal from end es → due ≡ resumed start end (is_frozen begun) es
    → lists_from start (end - start) due ≡ lists_of es end start begun
lists_first start from end begun es due j is =
    ap (lists_from start (end - start)) is ∙ go (nat_lt start end) (is_frozen begun && not (list_any is_line (since start es))) refl refl
  where
    lists_by : (c : Bool) → (is_frozen begun && not (list_any is_line (since start es))) ≡ c
        → lists_of es end start begun ≡ (elim c [
          | true ↦ lists_from start (end - start) es
          | false ↦ with_joins (live_before start es []) (lists_from start (end - start) es)
        ])
    lists_by c none =
        ap (λ (d : Bool). elim (is_frozen begun && not d) [
          | true ↦ lists_from start (end - start) es
          | false ↦ with_joins (live_before start es []) (lists_from start (end - start) es)
        ]) (lines_first start from end es j)
        ∙ ap (λ (d : Bool). elim d [
          | true ↦ lists_from start (end - start) es
          | false ↦ with_joins (live_before start es []) (lists_from start (end - start) es)
        ]) none

    go : (b c : Bool) → nat_lt start end ≡ b → (is_frozen begun && not (list_any is_line (since start es))) ≡ c
        → lists_from start (end - start) (resumed start end (is_frozen begun) es) ≡ lists_of es end start begun
    go true false up none =
        ap (lists_from start (end - start)) (resumed_by start end (is_frozen begun) es true false up none)
        ∙ lists_resumed start (end - start) (live_before start es []) es ∙ sym (lists_by false none)
    go true true up none =
        ap (lists_from start (end - start)) (resumed_by start end (is_frozen begun) es true true up none)
        ∙ lists_quiet start (end - start) es ∙ sym (lists_by true none)
    go false c up none =
        let short : end - start ≡ 0 = grind (arith, nat_tests) in
        ap (lists_from start (end - start)) (resumed_by start end (is_frozen begun) es false c up none)
        ∙ lists_quiet start (end - start) es ∙ no_turns c start (end - start) (live_before start es []) es short ∙ sym (lists_by c none)
