-- The lists of turns: what a journal gives from a start, turn by turn, and whether a line is left.
use Rattle.std.proofs.Common.{◌≡◌, ◌≢◌, ℕ, zero, suc, ◌+◌, ◌-◌, ◌<◌, ◌≤◌, Bool, true, false, cond, List, [], ◌∷◌, ◌++◌, map, refl, sym, ap, subst, ◌∙◌, arith}
use Rattle.std.proofs.lemmas.Bool.Decides.{nat_tests}
use Rattle.std.specs.List.{list_any}
use Rattle.std.specs.Prelude.{◌&&◌, ◌||◌, ◌==◌, nat_le, nat_lt}
use Rattle.trick_exec_sources.proofs.TurnEntries.{at_other, at_since, at_turn, within_head, within_tail}
use Rattle.trick_exec_sources.specs.Due.{is_line, joins_at, sessions_at, since}
use Rattle.trick_model.specs.Journal.{Noted, are_within, entries_at, is_of_session, lists_from, with_joins}
use Rattle.trick_model.specs.Run.{has_session_entry}
use Rattle.trick_model.specs.declared.entry.Entry.{Entry}
use Rattle.trick_model.specs.declared.entry.Entry.TheVariants.{Join}
use Rattle.trick_exec_sources.specs.Turns.{Sessions, after_entries, after_lists, in_next, no_sessions}

-- two lists with the same head and the same tail
same_cons : {A : Type 0} (a b : A) (xs ys : List A) → a ≡ b → xs ≡ ys → a ∷ xs ≡ b ∷ ys
same_cons {A = A} a b xs ys p q = ap (λ (c : A). c ∷ xs) p ∙ ap (λ (zs : List A). b ∷ zs) q

pub lists_since : (low turn count : ℕ) → low ≤ turn → (es : List Noted)
    → lists_from turn count (since low es) ≡ lists_from turn count es
lists_since low turn zero up es = refl
lists_since low turn (suc count) up es =
    same_cons _ _ _ _ (at_since low turn up es) (lists_since low (turn + 1) count (omega arith) es)

-- an entry of an earlier turn is in no list
pub lists_late : (turn count : ℕ) (e : Noted) (es : List Noted) → e.0 < turn → lists_from turn count (e ∷ es) ≡ lists_from turn count es
lists_late turn zero e es low = refl
lists_late turn (suc count) e es low =
    let other : (e.0 == turn) ≡ false = grind (arith, nat_tests) in
    same_cons _ _ _ _ (at_other turn e es other) (lists_late (turn + 1) count e es (omega arith))

-- ---- the joins at the first turn

at_joins : (start : ℕ) (live : List ℕ) (es : List Noted)
    → entries_at start (joins_at start live ++ es) ≡ map (λ session. Join session) live ++ entries_at start es
at_joins start [] es = refl
at_joins start (session ∷ live) es =
    at_turn start (start, Join session) (joins_at start live ++ es) refl
    ∙ ap (λ (list : List Entry). Join session ∷ list) (at_joins start live es)

lists_joins : (start turn count : ℕ) (live : List ℕ) (es : List Noted) → start < turn
    → lists_from turn count (joins_at start live ++ es) ≡ lists_from turn count es
lists_joins start turn count [] es up = refl
lists_joins start turn count (session ∷ live) es up =
    lists_late turn count (start, Join session) (joins_at start live ++ es) up ∙ lists_joins start turn count live es up

-- what a journal gives from a start are the lists of the joins and of what stands after the start
pub lists_resumed : (start count : ℕ) (live : List ℕ) (es : List Noted)
    → lists_from start count (joins_at start live ++ since start es) ≡ with_joins live (lists_from start count es)
lists_resumed start zero live es = refl
lists_resumed start (suc count) live es =
    same_cons _ _ _ _
    (at_joins start live (since start es)
    ∙ ap (λ (list : List Entry). map (λ session. Join session) live ++ list) (at_since start start (omega arith) es))
    (lists_joins start (start + 1) count live (since start es) (omega arith)
    ∙ lists_since start (start + 1) count (omega arith) es)

-- ---- sessions, turn by turn

sessions_more : (turn count : ℕ) (es : List Noted) (s : Sessions)
    → after_lists (lists_from turn (suc count) es) s
    ≡ after_entries (entries_at (turn + count) es) (in_next (after_lists (lists_from turn count es) s))
sessions_more turn zero es s =
    let same : turn ≡ turn + 0 = omega arith in
    ap (λ (t : ℕ). after_entries (entries_at t es) (in_next s)) same
sessions_more turn (suc count) es s =
    let same : turn + 1 + count ≡ turn + suc count = omega arith in
    sessions_more (turn + 1) count es (after_entries (entries_at turn es) (in_next s))
    ∙ ap (λ (t : ℕ). after_entries (entries_at t es) (in_next (after_lists (lists_from turn (suc count) es) s)))
    same

pub sessions_next : (start at : ℕ) (es : List Noted) → start ≤ at
    → sessions_at start (at + 1) es ≡ after_entries (entries_at at es) (in_next (sessions_at start at es))
sessions_next start at es up =
    let one : at + 1 - start ≡ suc (at - start) = omega arith in
    let same : start + (at - start) ≡ at = omega arith in
    ap (λ (n : ℕ). after_lists (lists_from start n es) no_sessions) one
    ∙ sessions_more start (at - start) es no_sessions
    ∙ ap (λ (t : ℕ). after_entries (entries_at t es) (in_next (sessions_at start at es)))
    same

-- ---- lines

no_lines : (turn count : ℕ) → has_session_entry (lists_from turn count []) ≡ false
no_lines turn zero = refl
no_lines turn (suc count) = no_lines (turn + 1) count

one_line : (turn count : ℕ) (e : Noted) (es : List Noted) → turn ≤ e.0 → e.0 < turn + count
    → has_session_entry (lists_from turn count (e ∷ es)) ≡ (is_line e || has_session_entry (lists_from turn count es))
one_line turn zero e es low high = absurd (omega arith)
one_line turn (suc count) e es low high =
    go (e.0 == turn) refl (λ up below. one_line (turn + 1) count e es up below)
  where
    swapped : (a b c : Bool) → (a || (b || c)) ≡ (b || (a || c))
    swapped true true c = refl
    swapped true false c = refl
    swapped false b c = refl

    regroup : (a b c : Bool) → ((a || b) || c) ≡ (a || (b || c))
    regroup true b c = refl
    regroup false b c = refl

    go : (b : Bool) → (e.0 == turn) ≡ b
        → (turn + 1 ≤ e.0 → e.0 < turn + 1 + count → has_session_entry (lists_from (turn + 1) count (e ∷ es))
        ≡ (is_line e || has_session_entry (lists_from (turn + 1) count es)))
        → has_session_entry (lists_from turn (suc count) (e ∷ es)) ≡ (is_line e || has_session_entry (lists_from turn (suc count) es))
    go true h more =
        let same : e.0 ≡ turn = grind (arith, nat_tests) in
        let low : e.0 < turn + 1 = omega arith in
        ap (λ (list : List Entry). list_any is_of_session list || has_session_entry (lists_from (turn + 1) count (e ∷ es)))
        (at_turn turn e es same)
        ∙ ap (λ (ls : List (List Entry)). list_any is_of_session (e.1 ∷ entries_at turn es) || has_session_entry ls)
        (lists_late (turn + 1) count e es low)
        ∙ regroup (is_line e) (list_any is_of_session (entries_at turn es)) (has_session_entry (lists_from (turn + 1) count es))
    go false h more =
        let apart : e.0 ≢ turn = grind (arith, nat_tests) in
        let up : turn + 1 ≤ e.0 = omega arith in
        let below : e.0 < turn + 1 + count = omega arith in
        ap (λ (list : List Entry). list_any is_of_session list || has_session_entry (lists_from (turn + 1) count (e ∷ es)))
        (at_other turn e es h)
        ∙ ap (λ (b : Bool). list_any is_of_session (entries_at turn es) || b) (more up below)
        ∙ swapped (list_any is_of_session (entries_at turn es)) (is_line e) (has_session_entry (lists_from (turn + 1) count es))

pub lines_in_lists : (turn count end : ℕ) (es : List Noted) → end ≤ turn + count → are_within turn end es ≡ true
    → has_session_entry (lists_from turn count es) ≡ list_any is_line es
lines_in_lists turn count end [] high w = no_lines turn count
lines_in_lists turn count end (e ∷ es) high w =
    let head = within_head turn end e es w in
    one_line turn count e es head.0 (omega (arith, head.1))
    ∙ ap (λ (b : Bool). is_line e || b) (lines_in_lists turn count end es high (within_tail turn end e es w))
