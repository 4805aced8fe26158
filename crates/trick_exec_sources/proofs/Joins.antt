-- How many sessions join in the lists of turns.
use Rattle.std.proofs.Common.{◌≡◌, ◌≢◌, ℕ, zero, suc, ◌+◌, ◌<◌, ◌≤◌, Bool, true, false, cond, List, [], ◌∷◌, refl, sym, ap, ◌∙◌, arith}
use Rattle.std.proofs.lemmas.Bool.Decides.{nat_tests}
use Rattle.std.proofs.lemmas.List.Sums.{sum_by-cons}
use Rattle.std.specs.Prelude.{◌==◌, count_by}
use Rattle.trick_exec_sources.proofs.Lists.{lists_late}
use Rattle.trick_exec_sources.proofs.TurnEntries.{at_other, at_turn, within_head, within_tail}
use Rattle.trick_exec_sources.specs.Due.{joins_in}
use Rattle.trick_model.specs.Journal.{Noted, are_within, entries_at, lists_from}
use Rattle.trick_model.specs.declared.entry.Entry.{Entry}
use Rattle.trick_exec_sources.specs.Joins.{is_join, joins_of}

-- one entry, counted where it is a join
one : Entry → ℕ
one entry = cond (is_join entry) 1 0

list_more : (entry : Entry) (entries : List Entry) → count_by is_join (entry ∷ entries) ≡ one entry + count_by is_join entries
unfolding one
list_more entry entries = sum_by-cons (λ (e : Entry). cond (is_join e) 1 0) entry entries

lists_more : (entries : List Entry) (lists : List (List Entry)) → joins_of (entries ∷ lists) ≡ count_by is_join entries + joins_of lists
lists_more entries lists = sum_by-cons (λ (l : List Entry). count_by is_join l) entries lists

due_more : (e : Noted) (es : List Noted) → joins_in (e ∷ es) ≡ one e.1 + joins_in es
unfolding one
due_more e es = sum_by-cons (λ (n : Noted). cond (is_join n.1) 1 0) e es

no_joins : (turn count : ℕ) → joins_of (lists_from turn count []) ≡ 0
no_joins turn zero = refl
no_joins turn (suc count) = omega (arith, lists_more [] (lists_from (turn + 1) count []), no_joins (turn + 1) count)

one_join : (turn count : ℕ) (e : Noted) (es : List Noted) → turn ≤ e.0 → e.0 < turn + count
    → joins_of (lists_from turn count (e ∷ es)) ≡ one e.1 + joins_of (lists_from turn count es)
one_join turn zero e es low high = absurd (omega arith)
one_join turn (suc count) e es low high =
    go (e.0 == turn) refl (λ up below. one_join (turn + 1) count e es up below)
  where
    first : joins_of (lists_from turn (suc count) (e ∷ es))
        ≡ count_by is_join (entries_at turn (e ∷ es)) + joins_of (lists_from (turn + 1) count (e ∷ es))
    first = lists_more (entries_at turn (e ∷ es)) (lists_from (turn + 1) count (e ∷ es))

    other : joins_of (lists_from turn (suc count) es) ≡ count_by is_join (entries_at turn es) + joins_of (lists_from (turn + 1) count es)
    other = lists_more (entries_at turn es) (lists_from (turn + 1) count es)

    go : (b : Bool) → (e.0 == turn) ≡ b
        → (turn + 1 ≤ e.0 → e.0 < turn + 1 + count → joins_of (lists_from (turn + 1) count (e ∷ es)) ≡ one e.1 + joins_of (lists_from (turn + 1) count es))
        → joins_of (lists_from turn (suc count) (e ∷ es)) ≡ one e.1 + joins_of (lists_from turn (suc count) es)
    go true h more =
        let same : e.0 ≡ turn = grind (arith, nat_tests) in
        let low : e.0 < turn + 1 = omega arith in
        let head : count_by is_join (entries_at turn (e ∷ es)) ≡ one e.1 + count_by is_join (entries_at turn es) =
        ap (count_by is_join) (at_turn turn e es same) ∙ list_more e.1 (entries_at turn es) in
        let rest : joins_of (lists_from (turn + 1) count (e ∷ es)) ≡ joins_of (lists_from (turn + 1) count es) =
        ap joins_of (lists_late (turn + 1) count e es low) in
        omega (arith, first, other, head, rest)
    go false h more =
        let apart : e.0 ≢ turn = grind (arith, nat_tests) in
        let up : turn + 1 ≤ e.0 = omega arith in
        let below : e.0 < turn + 1 + count = omega arith in
        let head : count_by is_join (entries_at turn (e ∷ es)) ≡ count_by is_join (entries_at turn es) = ap (count_by is_join) (at_other turn e es h) in
        omega (arith, first, other, head, more up below)

-- the joins of so many turns are those of the entries, where no other turn has one
pub joins_in_lists : (turn count end : ℕ) (es : List Noted) → end ≤ turn + count → are_within turn end es ≡ true
    → joins_of (lists_from turn count es) ≡ joins_in es
joins_in_lists turn count end [] high w = no_joins turn count
joins_in_lists turn count end (e ∷ es) high w =
    let head = within_head turn end e es w in
    one_join turn count e es head.0 (omega (arith, head.1))
    ∙ ap (λ n. one e.1 + n) (joins_in_lists turn count end es high (within_tail turn end e es w)) ∙ sym (due_more e es)
