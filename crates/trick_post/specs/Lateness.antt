-- How late rounds were.
use Rattle.std.proofs.Common.{◌∙◌, ◌⊎◌, inl, inr, ap, refl, subst, sym}
use Rattle.std.proofs.Math.Nat.{add-suc, add-zero, le-add_right, le-min, le_of_lt, le_refl, le_trans, min-eq_left, min-eq_right, min-le_left, min-le_right, suc-add}
use Rattle.std.proofs.Math.Numerals.{suc-eq-add-one}
use Rattle.std.proofs.lemmas.Bool.{cases_lt}
use Rattle.std.specs.Prelude.{◌≡◌, ℕ, suc, ◌+◌, ◌-◌, ◌^◌, ◌<◌, ◌≤◌, min, cond, List, [], ◌∷◌, ◌++◌}
use Rattle.trick_outside.specs.Causes.{RoseBy}
use Rattle.trick_post_work.specs.Polls.{Poll, is_ready, not_ready}
use Rattle.trick_post_work.specs.declared.posts.Posted.{Posted}
use Rattle.trick_post_work.specs.declared.posts.Posted.TheVariants as posted

-- The count after a poll: one more where nothing was ready. It stands still at 2^64 - 1.
abbrev pub late_after : ℕ → Posted → ℕ
late_after late posted.Ready = late
late_after late posted.NotYet = min (late + 1) (2 ^ 64 - 1)

-- the count after polls
abbrev pub late_through : ℕ → List Poll → ℕ
late_through late [] = late
late_through late (poll ∷ polls) = late_through (late_after late poll.answer) polls

pub through_join : (early polls : List Poll) (late : ℕ) → late_through late (early ++ polls) ≡ late_through (late_through late early) polls
through_join [] polls late = refl
through_join (poll ∷ early) polls late = through_join early polls (late_after late poll.answer)

-- Counts through polls join.
pub counts_join : (first second third : ℕ) (early polls : List Poll) → second ≡ late_through first early → third ≡ late_through second polls
    → third ≡ late_through first (early ++ polls)
counts_join first second third early polls one two =
    two ∙ ap (λ (late : ℕ). late_through late polls) one ∙ sym (through_join early polls first)

-- ---- how far it rises

one_further : (late count : ℕ) → late + suc count ≡ late + 1 + count
one_further late count = add-suc late count ∙ sym (suc-add late count) ∙ ap (λ (n : ℕ). n + count) (suc-eq-add-one late)

capped : (n count top : ℕ) → min (n + count) top ≤ min (min n top + count) top
capped n count top = by_order (cases_lt n top)
  where
    by_order : (n < top) ⊎ (top ≤ n) → min (n + count) top ≤ min (min n top + count) top
    by_order (inl below) =
        subst (λ (m : ℕ). min (n + count) top ≤ min (m + count) top) (sym (min-eq_left (le_of_lt below)))
        (le_refl (min (n + count) top))
    by_order (inr above) =
        subst (λ (m : ℕ). min (n + count) top ≤ min (m + count) top) (sym (min-eq_right above))
        (le-min (le_trans (min-le_right (n + count) top) (le-add_right top count)) (min-le_right (n + count) top))

one_poll : (answer : Posted) (count late now : ℕ) → RoseBy (late_after late answer) count now
    → RoseBy late (cond (is_ready answer) count (suc count)) now
one_poll posted.Ready count late now rose = rose
one_poll posted.NotYet count late now rose =
    le_trans (subst (λ (n : ℕ). min n (2 ^ 64 - 1) ≤ min (min (late + 1) (2 ^ 64 - 1) + count) (2 ^ 64 - 1))
    (sym (one_further late count)) (capped (late + 1) count (2 ^ 64 - 1))) rose

rises_by : (polls : List Poll) (late : ℕ) → RoseBy late (not_ready polls) (late_through late polls)
rises_by [] late = subst (λ (n : ℕ). min n (2 ^ 64 - 1) ≤ late) (sym (add-zero late)) (min-le_left late (2 ^ 64 - 1))
rises_by (poll ∷ polls) late =
    one_poll poll.answer (not_ready polls) late (late_through (late_after late poll.answer) polls)
    (rises_by polls (late_after late poll.answer))

-- It has risen by one at least for each poll that found nothing ready.
pub rose_counted : (old new : ℕ) (polls : List Poll) → new ≡ late_through old polls → RoseBy old (not_ready polls) new
rose_counted old new polls is = subst (RoseBy old (not_ready polls)) (sym is) (rises_by polls old)
