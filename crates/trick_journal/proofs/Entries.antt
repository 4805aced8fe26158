-- Rules of journals, with an entry more at the end.
use Rattle.std.proofs.Common.{◌≡◌, ℕ, zero, suc, ◌≤◌, ◌<◌, Bool, true, false, cond, List, [], ◌∷◌, ◌++◌, length, refl, sym, ap, ◌∙◌, arith}
use Rattle.std.proofs.lemmas.Bool.{and_parts}
use Rattle.std.proofs.lemmas.Bool.Decides.{nat_tests}
use Rattle.std.specs.Prelude.{◌&&◌, ◌||◌, ◌==◌, nat_le, nat_lt}
use Rattle.trick_journal.specs.Rules.{ends_above, follows, last_as, last_in}
use Rattle.trick_journal.specs.declared.rows.Last.{Last}
use Rattle.trick_journal.specs.declared.rows.Last.TheVariants as last
use Rattle.trick_model.specs.Journal.{Noted, are_in_range, are_rising, are_within, is_entry, may_follow, noted_lines, entry_line}
use Rattle.trick_model.specs.JournalText.{all_may_publish, may_publish}
use Rattle.trick_model.specs.Plan.{Plan}
use Rattle.trick_model.specs.Time.{last_turn}
use Rattle.trick_model.specs.declared.entry.Entry.{Entry}
use Rattle.trick_model.specs.declared.entry.Entry.TheVariants.{Join, Said, Leave, Publish}

pub and_true : (a : Bool) → (a && true) ≡ a
and_true true = refl
and_true false = refl

pub and_regrouped : (a b c : Bool) → (a && (b && c)) ≡ ((a && b) && c)
and_regrouped true b c = refl
and_regrouped false b c = refl

-- ---- turns that never fall

-- an entry may follow one that is no publication in the same turn or later
open_before : (a b : ℕ) → nat_le a b ≡ (nat_lt a b || ((a == b) && true))
open_before a b = grind (arith, nat_tests)

closed_before : (a b : ℕ) → nat_lt a b ≡ (nat_lt a b || ((a == b) && false))
closed_before a b = grind (arith, nat_tests)

follows_is : (f e : Noted) → follows (last_as f) e ≡ (nat_lt f.0 e.0 || ((f.0 == e.0) && may_follow f.1 e.1))
follows_is (t, Join session) (u, e) = open_before t u
follows_is (t, Said session line) (u, e) = open_before t u
follows_is (t, Leave session cause) (u, e) = open_before t u
follows_is (t, Publish thread) (u, Join session) = closed_before t u
follows_is (t, Publish thread) (u, Said session line) = closed_before t u
follows_is (t, Publish thread) (u, Leave session cause) = closed_before t u
follows_is (t, Publish thread) (u, Publish next) = refl

rising_behind : (f : Noted) (es : List Noted) (e : Noted)
    → are_rising (f ∷ es ++ e ∷ []) ≡ (are_rising (f ∷ es) && follows (last_in (last_as f) es) e)
rising_behind f [] e = and_true (nat_lt f.0 e.0 || ((f.0 == e.0) && may_follow f.1 e.1)) ∙ sym (follows_is f e)
rising_behind f (g ∷ es) e =
    let step = nat_lt f.0 g.0 || ((f.0 == g.0) && may_follow f.1 g.1) in
    ap (λ (b : Bool). step && b) (rising_behind g es e)
    ∙ and_regrouped step (are_rising (g ∷ es)) (follows (last_in (last_as g) es) e)

pub rising_more : (es : List Noted) (e : Noted)
    → are_rising (es ++ e ∷ []) ≡ (are_rising es && follows (last_in last.Nothing es) e)
rising_more [] e = refl
rising_more (f ∷ es) e = rising_behind f es e

pub last_more : (l : Last) (es : List Noted) (e : Noted) → last_in l (es ++ e ∷ []) ≡ last_as e
last_more l [] e = refl
last_more l (f ∷ es) e = last_more (last_as f) es e

-- ---- ranges

pub range_more : (es : List Noted) (e : Noted)
    → are_in_range (es ++ e ∷ []) ≡ (are_in_range es && (nat_le e.0 last_turn && is_entry e.1))
range_more [] e = ap (λ (b : Bool). nat_le e.0 last_turn && b) (and_true (is_entry e.1))
range_more (f ∷ es) e =
    let low = nat_le f.0 last_turn in
    let here = is_entry f.1 in
    let more = nat_le e.0 last_turn && is_entry e.1 in
    ap (λ (b : Bool). low && (here && b)) (range_more es e)
    ∙ ap (λ (b : Bool). low && b) (and_regrouped here (are_in_range es) more)
    ∙ and_regrouped low (here && are_in_range es) more

pub within_more : (from end : ℕ) (es : List Noted) (e : Noted)
    → are_within from end (es ++ e ∷ []) ≡ (are_within from end es && (nat_le from e.0 && nat_lt e.0 end))
within_more from end [] e = ap (λ (b : Bool). nat_le from e.0 && b) (and_true (nat_lt e.0 end))
within_more from end (f ∷ es) e =
    let low = nat_le from f.0 in
    let here = nat_lt f.0 end in
    let more = nat_le from e.0 && nat_lt e.0 end in
    ap (λ (b : Bool). low && (here && b)) (within_more from end es e)
    ∙ ap (λ (b : Bool). low && b) (and_regrouped here (are_within from end es) more)
    ∙ and_regrouped low (here && are_within from end es) more

pub publish_more : (p : Plan) (es : List Noted) (e : Noted)
    → all_may_publish p (es ++ e ∷ []) ≡ (all_may_publish p es && may_publish p e.1)
publish_more p [] e = and_true (may_publish p e.1)
publish_more p (f ∷ es) e =
    ap (λ (b : Bool). may_publish p f.1 && b) (publish_more p es e)
    ∙ and_regrouped (may_publish p f.1) (all_may_publish p es) (may_publish p e.1)

-- ---- the end

ends_behind : (e : Noted) (turn : ℕ) → ends_above (last_as e) turn ≡ nat_lt e.0 turn
ends_behind (t, Join session) turn = refl
ends_behind (t, Said session line) turn = refl
ends_behind (t, Leave session cause) turn = refl
ends_behind (t, Publish thread) turn = refl

step_up : (f g : Noted) → (nat_lt f.0 g.0 || ((f.0 == g.0) && may_follow f.1 g.1)) ≡ true → f.0 ≤ g.0
step_up f g h = grind (arith, nat_tests)

within_behind : (from end : ℕ) (f : Noted) (es : List Noted) (top : ℕ)
    → are_rising (f ∷ es) ≡ true → are_within from top (f ∷ es) ≡ true
    → are_within from end (f ∷ es) ≡ ends_above (last_in (last_as f) es) end
within_behind from end f [] top rising low =
    let here : nat_le from f.0 ≡ true = (and_parts _ _ low).0 in
    ap (λ (b : Bool). b && (nat_lt f.0 end && true)) here ∙ and_true (nat_lt f.0 end) ∙ sym (ends_behind f end)
within_behind from end f (g ∷ es) top rising low =
    let here : nat_le from f.0 ≡ true = (and_parts _ _ low).0 in
    let more = within_behind from end g es top (and_parts _ _ rising).1 (and_parts _ _ (and_parts _ _ low).1).1 in
    let up = step_up f g (and_parts _ _ rising).0 in
    ap (λ (b : Bool). b && (nat_lt f.0 end && are_within from end (g ∷ es))) here
    ∙ go (are_within from end (g ∷ es)) refl up ∙ more
  where
    go : (b : Bool) → are_within from end (g ∷ es) ≡ b → f.0 ≤ g.0 → (nat_lt f.0 end && b) ≡ b
    go true e up = let lt : nat_lt g.0 end ≡ true = (and_parts _ _ (and_parts _ _ e).1).0 in grind (arith, nat_tests)
    go false e up = grind (arith, nat_tests)

pub within_last : (from end : ℕ) (es : List Noted) (top : ℕ) → are_rising es ≡ true → are_within from top es ≡ true
    → are_within from end es ≡ ends_above (last_in last.Nothing es) end
within_last from end [] top rising low = refl
within_last from end (f ∷ es) top rising low = within_behind from end f es top rising low
