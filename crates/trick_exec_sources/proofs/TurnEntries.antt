-- Entries by their turns: those below a turn and those after them, and the rules that stay.
use Rattle.std.proofs.Common.{◌≡◌, ℕ, zero, suc, ◌+◌, ◌<◌, ◌≤◌, Bool, true, false, cond, List, [], ◌∷◌, ◌++◌, length, refl, sym, ap, subst, ◌∙◌, arith}
use Rattle.std.proofs.lemmas.Bool.{and_from, and_parts}
use Rattle.std.proofs.lemmas.Bool.Decides.{nat_tests}
use Rattle.std.proofs.lemmas.List.Sums.{sum_by-cons}
use Rattle.std.specs.List.{list_any}
use Rattle.std.specs.Prelude.{◌&&◌, ◌||◌, ◌==◌, nat_le, nat_lt, Option, Some, None, IfNone}
use Rattle.trick_exec_sources.specs.Due.{before, is_line, lines_of, since}
use Rattle.trick_model.specs.Journal.{Noted, are_in_range, are_rising, are_within, entries_at, is_entry, is_of_session, may_follow}
use Rattle.trick_model.specs.Time.{last_turn}
use Rattle.trick_model.specs.declared.entry.Entry.{Entry}

-- ---- the first entry

pub before_one : (turn : ℕ) (e : Noted) (es : List Noted) → e.0 < turn → before turn (e ∷ es) ≡ e.1 ∷ before turn es
before_one turn e es h =
    let low : nat_lt e.0 turn ≡ true = grind (arith, nat_tests) in
    ap (λ (b : Bool). cond b (e.1 ∷ before turn es) []) low

pub before_late : (turn : ℕ) (e : Noted) (es : List Noted) → turn ≤ e.0 → before turn (e ∷ es) ≡ []
before_late turn e es h =
    let late : nat_lt e.0 turn ≡ false = grind (arith, nat_tests) in
    ap (λ (b : Bool). cond b (e.1 ∷ before turn es) []) late

pub since_one : (turn : ℕ) (e : Noted) (es : List Noted) → e.0 < turn → since turn (e ∷ es) ≡ since turn es
since_one turn e es h =
    let low : nat_lt e.0 turn ≡ true = grind (arith, nat_tests) in
    ap (λ (b : Bool). cond b (since turn es) (e ∷ es)) low

pub since_late : (turn : ℕ) (e : Noted) (es : List Noted) → turn ≤ e.0 → since turn (e ∷ es) ≡ e ∷ es
since_late turn e es h =
    let late : nat_lt e.0 turn ≡ false = grind (arith, nat_tests) in
    ap (λ (b : Bool). cond b (since turn es) (e ∷ es)) late

-- an entry is below a turn or not
late_head : (turn : ℕ) (e : Noted) (es : List Noted) → before turn (e ∷ es) ≡ [] → nat_lt e.0 turn ≡ false
late_head turn e es = go (nat_lt e.0 turn)
  where
    go : (b : Bool) → cond b (e.1 ∷ before turn es) [] ≡ [] → b ≡ false
    go true h = cc
    go false h = refl

-- where none is below a turn, all stand after
pub since_all : (turn : ℕ) (es : List Noted) → before turn es ≡ [] → since turn es ≡ es
since_all turn [] h = refl
since_all turn (e ∷ es) h = ap (λ (b : Bool). cond b (since turn es) (e ∷ es)) (late_head turn e es h)

-- the first entry's turn is not below
pub late_first : (turn : ℕ) (e : Noted) (es : List Noted) → before turn (e ∷ es) ≡ [] → turn ≤ e.0
late_first turn e es h = let late = late_head turn e es h in grind (arith, nat_tests)

pub since_since : (low high : ℕ) → low ≤ high → (es : List Noted) → since high (since low es) ≡ since high es
since_since low high up [] = refl
since_since low high up (e ∷ es) = go (nat_lt e.0 low) refl (since_since low high up es)
  where
    go : (b : Bool) → nat_lt e.0 low ≡ b → since high (since low es) ≡ since high es
        → since high (cond b (since low es) (e ∷ es)) ≡ since high (e ∷ es)
    go true h more = let lower : e.0 < high = grind (arith, nat_tests) in more ∙ sym (since_one high e es lower)
    go false h more = refl

-- ---- the entries of a turn

pub at_turn : (turn : ℕ) (e : Noted) (es : List Noted) → e.0 ≡ turn → entries_at turn (e ∷ es) ≡ e.1 ∷ entries_at turn es
at_turn turn e es h =
    let same : (e.0 == turn) ≡ true = grind (arith, nat_tests) in
    ap (λ (b : Bool). elim b [ true ↦ e.1 ∷ entries_at turn es | false ↦ entries_at turn es ]) same

pub at_other : (turn : ℕ) (e : Noted) (es : List Noted) → (e.0 == turn) ≡ false → entries_at turn (e ∷ es) ≡ entries_at turn es
at_other turn e es h = ap (λ (b : Bool). elim b [ true ↦ e.1 ∷ entries_at turn es | false ↦ entries_at turn es ]) h

pub at_since : (low turn : ℕ) → low ≤ turn → (es : List Noted) → entries_at turn (since low es) ≡ entries_at turn es
at_since low turn up [] = refl
at_since low turn up (e ∷ es) = go (nat_lt e.0 low) refl (at_since low turn up es)
  where
    go : (b : Bool) → nat_lt e.0 low ≡ b → entries_at turn (since low es) ≡ entries_at turn es
        → entries_at turn (cond b (since low es) (e ∷ es)) ≡ entries_at turn (e ∷ es)
    go true h more = let other : (e.0 == turn) ≡ false = grind (arith, nat_tests) in more ∙ sym (at_other turn e es other)
    go false h more = refl

-- ---- rules

pub step_up : (f g : Noted) → (nat_lt f.0 g.0 || ((f.0 == g.0) && may_follow f.1 g.1)) ≡ true → f.0 ≤ g.0
step_up f g h = grind (arith, nat_tests)

pub rising_tail : (e : Noted) (es : List Noted) → are_rising (e ∷ es) ≡ true → are_rising es ≡ true
rising_tail e [] r = refl
rising_tail e (f ∷ es) r = (and_parts _ _ r).1

pub within_tail : (from end : ℕ) (e : Noted) (es : List Noted) → are_within from end (e ∷ es) ≡ true → are_within from end es ≡ true
within_tail from end e es w = (and_parts _ _ (and_parts _ _ w).1).1

pub within_head : (from end : ℕ) (e : Noted) (es : List Noted) → are_within from end (e ∷ es) ≡ true → (from ≤ e.0) × (e.0 < end)
within_head from end e es w =
    let low : nat_le from e.0 ≡ true = (and_parts _ _ w).0 in
    let high : nat_lt e.0 end ≡ true = (and_parts _ _ (and_parts _ _ w).1).0 in
    let up : from ≤ e.0 = grind (arith, nat_tests) in
    let below : e.0 < end = grind (arith, nat_tests) in
    (up, below)

within_one : (from end : ℕ) (e : Noted) (es : List Noted) → from ≤ e.0 → e.0 < end → are_within from end es ≡ true
    → are_within from end (e ∷ es) ≡ true
within_one from end e es low high more =
    let up : nat_le from e.0 ≡ true = grind (arith, nat_tests) in
    let below : nat_lt e.0 end ≡ true = grind (arith, nat_tests) in
    and_from _ _ up (and_from _ _ below more)

-- where the first turn is not below a turn, none is
within_from : (low from end : ℕ) (e : Noted) (es : List Noted) → are_rising (e ∷ es) ≡ true → low ≤ e.0
    → are_within from end (e ∷ es) ≡ true → are_within low end (e ∷ es) ≡ true
within_from low from end e [] r up w = within_one low end e [] up (within_head from end e [] w).1 refl
within_from low from end e (f ∷ es) r up w =
    let more : low ≤ f.0 = omega (arith, step_up e f (and_parts _ _ r).0) in
    within_one low end e (f ∷ es) up (within_head from end e (f ∷ es) w).1
    (within_from low from end f es (and_parts _ _ r).1 more (within_tail from end e (f ∷ es) w))

pub within_since : (turn from end : ℕ) (es : List Noted) → are_rising es ≡ true → are_within from end es ≡ true
    → are_within turn end (since turn es) ≡ true
within_since turn from end [] r w = refl
within_since turn from end (e ∷ es) r w =
    go (nat_lt e.0 turn) refl (within_since turn from end es (rising_tail e es r) (within_tail from end e es w))
  where
    go : (b : Bool) → nat_lt e.0 turn ≡ b → are_within turn end (since turn es) ≡ true
        → are_within turn end (cond b (since turn es) (e ∷ es)) ≡ true
    go true h more = more
    go false h more = let up : turn ≤ e.0 = grind (arith, nat_tests) in within_from turn from end e es r up w

pub rising_since : (turn : ℕ) (es : List Noted) → are_rising es ≡ true → are_rising (since turn es) ≡ true
rising_since turn [] r = refl
rising_since turn (e ∷ es) r = go (nat_lt e.0 turn) (rising_since turn es (rising_tail e es r))
  where
    go : (b : Bool) → are_rising (since turn es) ≡ true → are_rising (cond b (since turn es) (e ∷ es)) ≡ true
    go true more = more
    go false more = r

pub range_since : (turn : ℕ) (es : List Noted) → are_in_range es ≡ true → are_in_range (since turn es) ≡ true
range_since turn [] r = refl
range_since turn (e ∷ es) r = go (nat_lt e.0 turn) (range_since turn es (and_parts _ _ (and_parts _ _ r).1).1)
  where
    go : (b : Bool) → are_in_range (since turn es) ≡ true → are_in_range (cond b (since turn es) (e ∷ es)) ≡ true
    go true more = more
    go false more = r

-- between a turn and an end that is not above it there is nothing
pub none_within : (from end : ℕ) (es : List Noted) → end ≤ from → are_within from end es ≡ true → es ≡ []
none_within from end [] up w = refl
none_within from end (e ∷ es) up w = absurd (omega (arith, (within_head from end e es w).0, (within_head from end e es w).1))

pub since_within : (turn end : ℕ) (es : List Noted) → are_within turn end es ≡ true → since turn es ≡ es
since_within turn end [] w = refl
since_within turn end (e ∷ es) w = since_late turn e es (within_head turn end e es w).0

-- ---- the list of a turn

pub none_at : (turn : ℕ) (e : Noted) (es : List Noted) → are_rising (e ∷ es) ≡ true → turn < e.0 → entries_at turn (e ∷ es) ≡ []
none_at turn e [] r up = let other : (e.0 == turn) ≡ false = grind (arith, nat_tests) in at_other turn e [] other
none_at turn e (f ∷ es) r up =
    let other : (e.0 == turn) ≡ false = grind (arith, nat_tests) in
    let more : turn < f.0 = omega (arith, step_up e f (and_parts _ _ r).0) in
    at_other turn e (f ∷ es) other ∙ none_at turn f es (and_parts _ _ r).1 more

-- the entries of a turn are those below the next one
pub before_is_at : (at end : ℕ) (es : List Noted) → are_rising es ≡ true → are_within at end es ≡ true
    → before (at + 1) es ≡ entries_at at es
before_is_at at end [] r w = refl
before_is_at at end (e ∷ es) r w =
    go (nat_lt e.0 (at + 1)) refl (before_is_at at end es (rising_tail e es r) (within_tail at end e es w))
  where
    go : (b : Bool) → nat_lt e.0 (at + 1) ≡ b → before (at + 1) es ≡ entries_at at es
        → cond b (e.1 ∷ before (at + 1) es) [] ≡ entries_at at (e ∷ es)
    go true h more =
        let low = (within_head at end e es w).0 in
        let same : e.0 ≡ at = grind (arith, nat_tests) in
        ap (λ (list : List Entry). e.1 ∷ list) more ∙ sym (at_turn at e es same)
    go false h more = let up : at < e.0 = grind (arith, nat_tests) in sym (none_at at e es r up)

-- ---- lines

pub any_split : (turn : ℕ) (es : List Noted)
    → list_any is_line es ≡ (list_any is_of_session (before turn es) || list_any is_line (since turn es))
any_split turn [] = refl
any_split turn (e ∷ es) = go (nat_lt e.0 turn) (any_split turn es)
  where
    regroup : (a b c : Bool) → (a || (b || c)) ≡ ((a || b) || c)
    regroup true b c = refl
    regroup false b c = refl

    go : (b : Bool) → list_any is_line es ≡ (list_any is_of_session (before turn es) || list_any is_line (since turn es))
        → list_any is_line (e ∷ es)
        ≡ (list_any is_of_session (cond b (e.1 ∷ before turn es) []) || list_any is_line (cond b (since turn es) (e ∷ es)))
    go true more = ap (λ (b : Bool). is_line e || b) more ∙ regroup (is_line e) _ _
    go false more = refl

-- a line is left where there is one at least
pub any_is_some : (es : List Noted) → list_any is_line es ≡ nat_lt 0 (lines_of es)
any_is_some [] = refl
any_is_some (e ∷ es) = go (is_line e) (any_is_some es) ∙ sym (ap (nat_lt 0) (sum_by-cons (λ x. cond (is_line x) 1 0) e es))
  where
    go : (b : Bool) → list_any is_line es ≡ nat_lt 0 (lines_of es) → (b || list_any is_line es) ≡ nat_lt 0 (cond b 1 0 + lines_of es)
    go true more = grind (arith, nat_tests)
    go false more = let same : nat_lt 0 (lines_of es) ≡ nat_lt 0 (0 + lines_of es) = grind (arith, nat_tests) in more ∙ same

-- where nothing was there, nothing was below a turn
pub none_there : (o : Option Noted) (turn : ℕ) (es : List Noted) → IfNone o (es ≡ []) → IfNone o (before turn es ≡ [])
none_there None turn es h = ap (before turn) h
none_there (Some e) turn es h = h
