-- Where no thread works beside the tics nothing can be handed over, and no thread has a clerk.
use Rattle.std.proofs.Common.{◌≡◌, ◌||◌, ℕ, ◌==◌, Bool, true, false, cond, List, [], ◌∷◌, refl, subst}
use Rattle.std.specs.List.{list_any}
use Rattle.std.specs.Prelude.{filter}
use Rattle.trick_crew.specs.Needs.{needs_clerks}
use Rattle.trick_post.specs.Clerks.{clerked, has_clerk, numbers}
use Rattle.trick_model.specs.Beside.{find_thread}
use Rattle.trick_model.specs.Plan.{is_beside, process_in}
use Rattle.trick_model.specs.PlanOf.{plan_of}
use Rattle.trick_model.specs.declared.plan.Plan.{Plan}
use Rattle.trick_model.specs.declared.taken.Taken.{Taken}
use Rattle.trick_model.specs.declared.thread.Thread.{Thread}
use Rattle.trick_post_work.specs.Work.{CanStart, IsKindOf, found_or_none}
use Rattle.trick_post_work.specs.declared.posts.Job1.{Job1}

kept_none : {A : Type 0} (test : A → Bool) (xs : List A) → list_any test xs ≡ false → filter test xs ≡ []
kept_none test [] none = refl
kept_none {A} test (x ∷ xs) none = by_test (λ rest. kept_none test xs rest) (test x) none
  where
    by_test : (list_any test xs ≡ false → filter test xs ≡ []) → (b : Bool) → (b || list_any test xs) ≡ false
        → cond b (x ∷ filter test xs) (filter test xs) ≡ []
    by_test others true some = let e : true ≡ false = some in absurd (cc)
    by_test others false rest = others rest

-- nothing can be handed over
pub nothing_starts : (plan : Plan) (number : ℕ) (taken : Taken) (work : Job1) → needs_clerks plan ≡ false
    → CanStart (plan_of plan) number taken work → ⊥
nothing_starts plan number taken work none right =
    subst (λ (threads : List Thread). IsKindOf (found_or_none (find_thread number threads)).process work)
    (kept_none (λ (thread : Thread). is_beside thread.process) plan.threads none) right.kind

by_number : (threads : List Thread) (thread : Thread) (number : ℕ) (b : Bool) → is_beside thread.process ≡ false
    → is_beside (process_in threads number) ≡ false
    → is_beside (elim b [ true ↦ thread.process | false ↦ process_in threads number ]) ≡ false
by_number threads thread number true here others = here
by_number threads thread number false here others = others

-- no number is that of a thread beside the tics
none_beside : (threads : List Thread) (number : ℕ) → list_any (λ (thread : Thread). is_beside thread.process) threads ≡ false
    → is_beside (process_in threads number) ≡ false
none_beside [] number none = refl
none_beside (thread ∷ threads) number none =
    by_test (λ rest. none_beside threads number rest) (is_beside thread.process) refl none
  where
    by_test : (list_any (λ (other : Thread). is_beside other.process) threads ≡ false
        → is_beside (process_in threads number) ≡ false) → (b : Bool) → is_beside thread.process ≡ b
        → (b || list_any (λ (other : Thread). is_beside other.process) threads) ≡ false
        → is_beside (process_in (thread ∷ threads) number) ≡ false
    by_test others true here some = let e : true ≡ false = some in absurd (cc)
    by_test others false here rest = by_number threads thread number (thread.number == number) here (others rest)

untested : (test : ℕ → Bool) (ns : List ℕ) → ((n : ℕ) → test n ≡ false) → filter test ns ≡ []
untested test [] none = refl
untested test (n ∷ ns) none = by_test (untested test ns none) (test n) (none n)
  where
    by_test : filter test ns ≡ [] → (b : Bool) → b ≡ false → cond b (n ∷ filter test ns) (filter test ns) ≡ []
    by_test others true some = absurd (cc)
    by_test others false none_here = others

-- no thread has a clerk
pub nobody_clerked : (plan : Plan) → needs_clerks plan ≡ false → clerked plan ≡ []
nobody_clerked plan none = untested (has_clerk plan) numbers (λ n. none_beside plan.threads n none)
