-- The jobs of a tic of an accepted plan.
use Rattle.std.proofs.Common.{◌≡◌, ◌≢◌, ◌⊎◌, inl, inr, ℕ, suc, ◌+◌, ◌<◌, ◌≤◌, ◌==◌, nat_le, nat_lt, Bool, true, false, cond, ◌&&◌, ◌||◌, List, [], ◌∷◌, length, IsTrue, refl, sym, ◌∙◌, ap, subst, arith}
use Rattle.std.proofs.Math.Bool.{and-false}
use Rattle.std.proofs.Math.Logic.{∥∥₁_elim, ∥∥₁_map}
use Rattle.std.proofs.lemmas.Bool.{and_from, and_parts, both_ways, cases_Bool, eq-eqb, eqb-true, le-leb, leb-true}
use Rattle.std.proofs.lemmas.Bool.Decides.{nat_tests}
use Rattle.std.proofs.lemmas.List.Elements.{All-contains}
use Rattle.std.proofs.lemmas.List.Folds.{Any-from_list_any, list_any-from_Any}
use Rattle.std.specs.List.{Any}
use Rattle.std.specs.Prelude.{filter}
use Rattle.trick_base.proofs.Numbers.{other_than_less}
use Rattle.trick_base.proofs.Truths.{no_two_absurdities}
use Rattle.trick_cycle.specs.Due.{IsDue, is_due_at}
use Rattle.trick_cycle.specs.declared.Due.{Due}
use Rattle.trick_lang.specs.Laws.{SameEffect, WritesOnly}
use Rattle.trick_lang.specs.declared.class.Class.TheVariants as class
use Rattle.trick_lang.specs.declared.job.Job.{Job}
use Rattle.trick_model.proofs.Ranges.{Below, filter_below, jobs_below, order_below}
use Rattle.trick_model.specs.Acceptance.{AreIndependent, IsAccepted, IsForward, IsOrderedBefore, Orders}
use Rattle.trick_model.specs.Laws.{AreInKeyOrder, AreJobs, KeyOrderIsOne, is_among}
use Rattle.trick_model.specs.Order.{is_due, is_of_class, precedes}
use Rattle.trick_model.specs.Plan.{is_on_scheduled, job_numbers, numbers_from, thread_of}
use Rattle.trick_model.specs.PlanOf.{plan_of}
use Rattle.trick_model.specs.Time.{due_of}
use Rattle.trick_model.specs.Valid.{IsPair, can_depend}
use Rattle.trick_model.specs.declared.depends.Depends.{Depends}
use Rattle.trick_model.specs.declared.flags.Flags.{Flags}
use Rattle.trick_model.specs.declared.plan.Plan.{Plan as PlanValue}
use Rattle.trick_race.specs.Laws.{AreSettled, DueJobsAreSettled}
use Rattle.trick_phase_schedules.proofs.Keys.{among_cases, among_rest, none_among, not_both, one_first, precedes_all}
use Rattle.trick_phase_schedules.proofs.Right.{AreOrdered, IsRight}
use Rattle.trick_phase_schedules.specs.Tics.{IsDueIn, Tic, depends_on, due_jobs, tic_of}

-- ---- numbers of jobs

mix_on : (e t a : Bool) → (e ≡ true → t ≡ true) → (e || (t && a)) ≡ (t && (e || a))
mix_on true true a h = refl
mix_on true false a h = sym (h refl)
mix_on false t a h = refl

mix_off : (e t a : Bool) → (e ≡ true → t ≡ false) → (t && a) ≡ (t && (e || a))
mix_off false t a h = refl
mix_off true false a h = refl
mix_off true true a h = let no : true ≡ false = h refl in cc

pub among_filter : (test : ℕ → Bool) (m : ℕ) (xs : List ℕ) → is_among m (filter test xs) ≡ (test m && is_among m xs)
among_filter test m [] = sym (and-false (test m))
among_filter test m (x ∷ xs) = by_test (among_filter test m xs) (test x) refl
  where
    by_test : is_among m (filter test xs) ≡ (test m && is_among m xs) → (b : Bool) → test x ≡ b
        → is_among m (cond b (x ∷ filter test xs) (filter test xs)) ≡ (test m && ((x == m) || is_among m xs))
    by_test others true e = ap (λ (b : Bool). (x == m) || b) others
        ∙ mix_on (x == m) (test m) (is_among m xs) (λ h. ap test (sym (eqb-true x m h)) ∙ e)
    by_test others false e = others ∙ mix_off (x == m) (test m) (is_among m xs) (λ h. ap test (sym (eqb-true x m h)) ∙ e)

pub jobs_kept : (jobs : List Job) (test : ℕ → Bool) (ks : List ℕ) → AreJobs jobs ks → AreJobs jobs (filter test ks)
jobs_kept jobs test [] are = tt
jobs_kept jobs test (k ∷ ks) are = by_test (jobs_kept jobs test ks are.2) (test k)
  where
    by_test : AreJobs jobs (filter test ks) → (b : Bool) → AreJobs jobs (cond b (k ∷ filter test ks) (filter test ks))
    by_test others true = (are.0, among_filter test k ks ∙ ap (λ b. test k && b) are.1 ∙ and-false (test k), others)
    by_test others false = others

not_later : {A : Type 0} (k j : ℕ) (xs : List A) → k < j → is_among k (numbers_from j xs) ≡ false
not_later k j [] less = refl
not_later k j (x ∷ xs) less = ap (λ b. b || is_among k (numbers_from (suc j) xs)) (other_than_less j k less) ∙ not_later k (suc j) xs (omega arith)

pub numbers_are : (all : List Job) {A : Type 0} (k : ℕ) (xs : List A) → k + length xs ≤ length all → AreJobs all (numbers_from k xs)
numbers_are all k [] fits = tt
numbers_are all k (x ∷ xs) fits = (omega arith, not_later k (suc k) xs (omega arith), numbers_are all (suc k) xs (omega arith))

pub numbers_among : {A : Type 0} (k j : ℕ) (xs : List A) → j ≤ k → k < j + length xs → IsTrue (is_among k (numbers_from j xs))
numbers_among k j [] low high = absurd (omega arith)
numbers_among k j (x ∷ xs) low high = by_place (cases_Bool (j == k)) (λ less. numbers_among k (suc j) xs less (omega arith))
  where
    differ : (j == k) ≡ false → suc j ≤ k
    differ off = grind (arith, nat_tests)

    by_place : ((j == k) ≡ true) ⊎ ((j == k) ≡ false) → (suc j ≤ k → IsTrue (is_among k (numbers_from (suc j) xs)))
        → IsTrue ((j == k) || is_among k (numbers_from (suc j) xs))
    by_place (inl here) others = ap (λ (b : Bool). b || is_among k (numbers_from (suc j) xs)) here
    by_place (inr off) others = among_rest k j (numbers_from (suc j) xs) (others (differ off))

-- ---- which jobs are due

-- the test by which the due jobs are chosen
abbrev pub is_chosen : Tic → ℕ → Bool
is_chosen t k = is_due t.plan t.on t.number k && is_on_scheduled t.plan.jobs t.plan.threads k

pub chosen : KeyOrderIsOne → (t : Tic) (k : ℕ) → IsDueIn t k → IsTrue (is_chosen t k)
chosen law t k due =
    let among : IsTrue (is_among k (filter (is_chosen t) (job_numbers t.plan.jobs))) = law.same t.plan.jobs (filter (is_chosen t) (job_numbers t.plan.jobs)) k ∙ due in
    (and_parts (is_chosen t k) _ (sym (among_filter (is_chosen t) k (job_numbers t.plan.jobs)) ∙ among)).0

is_due_in : KeyOrderIsOne → (t : Tic) (k : ℕ) → k < length t.plan.jobs → IsTrue (is_chosen t k) → IsDueIn t k
is_due_in law t k there test =
    sym (law.same t.plan.jobs (filter (is_chosen t) (job_numbers t.plan.jobs)) k)
    ∙ among_filter (is_chosen t) k (job_numbers t.plan.jobs)
    ∙ and_from (is_chosen t k) _ test (numbers_among k 0 t.plan.jobs (omega arith) (omega arith))

below_among : (n k : ℕ) (ks : List ℕ) → Below n ks → IsTrue (is_among k ks) → k < n
below_among n k [] below among = absurd (none_among k among)
below_among n k (j ∷ ks) below among = elim (among_cases k j ks among) [
  | inl e ↦ subst (λ (i : ℕ). i < n) e below.0
  | inr later ↦ below_among n k ks below.1 later
]

pub due_there : (t : Tic) (k : ℕ) → IsDueIn t k → k < length t.plan.jobs
due_there t k due =
    below_among (length t.plan.jobs) k (due_jobs t)
    (order_below (length t.plan.jobs) t.plan.jobs _ (filter_below (length t.plan.jobs) (is_chosen t) (job_numbers t.plan.jobs) (jobs_below t.plan.jobs)))
    due

-- ---- times

time_of : (d : Due) (tic : ℕ) → IsTrue (is_due_at d tic) → IsDue d tic
time_of d tic h =
    let first = and_parts (nat_le d.start tic && nat_le tic d.stop) _ h in
    let times = and_parts (nat_le d.start tic) _ first.0 in
    record {
      started = leb-true _ _ times.0;
      not_over = leb-true _ _ times.1;
      in_step = eqb-true _ _ first.1;
    }

test_time : (d : Due) (tic : ℕ) → IsDue d tic → IsTrue (is_due_at d tic)
test_time d tic h =
    and_from (nat_le d.start tic && nat_le tic d.stop) _
    (and_from (nat_le d.start tic) _ (le-leb _ _ h.started) (le-leb _ _ h.not_over))
    (eq-eqb _ _ h.in_step)

due_time : KeyOrderIsOne → (t : Tic) (k : ℕ) → IsDueIn t k → IsDue (due_of t.plan t.plan.jobs_on k) t.number
due_time law t k due =
    let here = (and_parts (is_due t.plan t.on t.number k) _ (chosen law t k due)).0 in
    time_of (due_of t.plan t.on k) t.number (and_parts (is_of_class t.plan.jobs class.Scheduled k) _ here).1

-- ---- depends_on pairs

abbrev is_pair : ℕ → ℕ → Depends → Bool
is_pair k a pair = ((pair.target).0 == k) && ((pair.depended).0 == a)

found_pair : (pairs : List Depends) (k a : ℕ) → IsTrue (depends_on pairs k a) → Any (λ pair. is_pair k a pair ≡ true) pairs
found_pair pairs k a h = Any-from_list_any (is_pair k a) pairs h

forward_pair : (plan : PlanValue) (k a : ℕ) → IsAccepted (plan_of plan) → Any (λ pair. is_pair k a pair ≡ true) plan.depends
    → IsTrue (precedes plan.program.jobs a k)
forward_pair plan k a accepted (i, pair, less, is, test) =
    let parts = and_parts ((pair.target).0 == k) _ test in
    let first : IsForward (plan_of plan) pair = All-contains (IsForward (plan_of plan)) plan.depends pair accepted.forward (i, less, is) in
    subst (λ (n : ℕ). IsTrue (precedes plan.program.jobs n k)) (eqb-true _ _ parts.1)
    (subst (λ (n : ℕ). IsTrue (precedes plan.program.jobs (pair.depended).0 n)) (eqb-true _ _ parts.0) first)

forward : (plan : PlanValue) → ∥ IsAccepted (plan_of plan) ∥₁ → (k a : ℕ) → IsTrue (depends_on plan.depends k a) → IsTrue (precedes plan.program.jobs a k)
forward plan accepted k a h = elim (cases_Bool (precedes plan.program.jobs a k)) [
  | inl on ↦ on
  | inr off ↦ absurd (∥∥₁_elim accepted no_two_absurdities
      (λ (h' : IsAccepted (plan_of plan)). both_ways (precedes plan.program.jobs a k) off (forward_pair plan k a h' (found_pair plan.depends k a h))))
]

-- ---- jobs on two threads

record Pairs (plan : PlanValue) (on : Flags) (number : ℕ) (a b : ℕ) (pair : Depends) : Type 0 where
  listed : IsTrue (depends_on plan.depends (pair.target).0 (pair.depended).0)
  depended_due : IsDueIn (tic_of plan on number) (pair.depended).0
  target_due : IsDueIn (tic_of plan on number) (pair.target).0
  orders : Orders (plan_of plan) a b pair

can_be_due : KeyOrderIsOne → (plan : PlanValue) (on : Flags) (number k : ℕ)
    → IsTrue (nat_lt k (length plan.program.jobs) && (is_of_class plan.program.jobs class.Scheduled k && is_on_scheduled plan.program.jobs plan.threads k))
    → IsDue (due_of (plan_of plan) plan.jobs k) number → IsDueIn (tic_of plan on number) k
can_be_due law plan on number k can due =
    let first = and_parts (nat_lt k (length plan.program.jobs)) _ can in
    let then = and_parts (is_of_class plan.program.jobs class.Scheduled k) _ first.1 in
    is_due_in law (tic_of plan on number) k (less_of _ _ first.0)
    (and_from (is_due (plan_of plan) on number k) _
    (and_from (is_of_class plan.program.jobs class.Scheduled k) _ then.0 (test_time (due_of (plan_of plan) on k) number due)) then.1)
  where
    less_of : (n m : ℕ) → IsTrue (nat_lt n m) → n < m
    less_of n m h = grind (arith, nat_tests)

pair_of : KeyOrderIsOne → (plan : PlanValue) (on : Flags) (number a b : ℕ)
    → IsDueIn (tic_of plan on number) a → IsDueIn (tic_of plan on number) b
    → IsOrderedBefore (plan_of plan) a b → (pair : Depends) × Pairs plan on number a b pair
pair_of law plan on number a b due_a due_b (i, pair, less, is, orders) =
    let t = tic_of plan on number in
    let times : IsDue (due_of (plan_of plan) plan.jobs a) number × IsDue (due_of (plan_of plan) plan.jobs b) number =
    (due_time law t a due_a, due_time law t b due_b) in
    let right : IsPair plan.program.jobs plan.threads pair = All-contains (IsPair plan.program.jobs plan.threads) plan.depends pair plan.pairs_right (i, less, is) in
    let both = and_parts (can_depend plan.program.jobs plan.threads pair.target) _ right in (
      pair,
      record {
        listed = list_any-from_Any (is_pair (pair.target).0 (pair.depended).0) plan.depends
            (i, pair, less, is, and_from ((pair.target).0 == (pair.target).0) _ (eq-eqb _ _ refl) (eq-eqb _ _ refl));
        depended_due = can_be_due law plan on number (pair.depended).0 both.1 (orders.depended_due number times);
        target_due = can_be_due law plan on number (pair.target).0 both.0 (orders.target_due number times);
        orders = orders;
      },
    )

ordered_of : (plan : PlanValue) (on : Flags) (number a b : ℕ) → (pair : Depends) × Pairs plan on number a b pair → AreOrdered (tic_of plan on number) a b
ordered_of plan on number a b (pair, h) = record {
  depended = (pair.depended).0;
  target = (pair.target).0;
  pair = h.listed;
  depended_due = h.depended_due;
  target_due = h.target_due;
  not_below = h.orders.not_below;
  not_above = h.orders.not_above;
  on_first = h.orders.on_first;
  on_second = h.orders.on_second;
}

-- no job is ordered before one of smaller key
no_way_back : (plan : PlanValue) (on : Flags) (number a b : ℕ)
    → ((k j : ℕ) → IsTrue (depends_on plan.depends k j) → IsTrue (precedes plan.program.jobs j k))
    → ((k j : ℕ) → IsDueIn (tic_of plan on number) k → IsDueIn (tic_of plan on number) j
    → (k ≡ j) ⊎ (IsTrue (precedes plan.program.jobs k j) ⊎ IsTrue (precedes plan.program.jobs j k)))
    → IsTrue (precedes plan.program.jobs a b) → IsDueIn (tic_of plan on number) a → IsDueIn (tic_of plan on number) b
    → AreOrdered (tic_of plan on number) b a → ⊥
no_way_back plan on number a b law total first due_a due_b o =
    not_both plan.program.jobs a b first (precedes_from (total o.target a o.target_due due_a) (below_target (total o.depended b o.depended_due due_b)))
  where
    below_target : (o.depended ≡ b) ⊎ (IsTrue (precedes plan.program.jobs o.depended b) ⊎ IsTrue (precedes plan.program.jobs b o.depended))
        → IsTrue (precedes plan.program.jobs b o.target)
    below_target (inl e) = subst (λ (n : ℕ). IsTrue (precedes plan.program.jobs n o.target)) e (law o.target o.depended o.pair)
    below_target (inr (inl before)) = absurd (o.not_below before)
    below_target (inr (inr behind)) = precedes_all plan.program.jobs b o.depended o.target behind (law o.target o.depended o.pair)

    precedes_from : (o.target ≡ a) ⊎ (IsTrue (precedes plan.program.jobs o.target a) ⊎ IsTrue (precedes plan.program.jobs a o.target))
        → IsTrue (precedes plan.program.jobs b o.target) → IsTrue (precedes plan.program.jobs b a)
    precedes_from (inl e) h = subst (λ (n : ℕ). IsTrue (precedes plan.program.jobs b n)) e h
    precedes_from (inr (inl before)) h = precedes_all plan.program.jobs b o.target a h before
    precedes_from (inr (inr behind)) h = absurd (o.not_above behind)

pub right : KeyOrderIsOne → DueJobsAreSettled → SameEffect → WritesOnly
    → (plan : PlanValue) (on : Flags) (number : ℕ) → ∥ IsAccepted (plan_of plan) ∥₁ → IsRight (tic_of plan on number)
right keys settled same within plan on number accepted = record {
  ordered = ordered;
  there = due_there (tic_of plan on number);
  inputs = λ k m n agree. same plan.program (record { 0 = k }) m n agree;
  outputs = λ k m stored c n is here. within plan.program (record { 0 = k }) m stored c n is here;
  forward = forward plan accepted;
  apart = apart;
}
  where
    ordered : AreInKeyOrder plan.program.jobs (due_jobs (tic_of plan on number))
    ordered = keys.ordered plan (filter (is_chosen (tic_of plan on number)) (job_numbers plan.program.jobs))
        (jobs_kept plan.program.jobs (is_chosen (tic_of plan on number)) (job_numbers plan.program.jobs) (numbers_are plan.program.jobs 0 plan.program.jobs (omega arith)))

    apart : (a b : ℕ) → IsTrue (precedes plan.program.jobs a b) → IsDueIn (tic_of plan on number) a → IsDueIn (tic_of plan on number) b
        → thread_of plan.program.jobs a ≢ thread_of plan.program.jobs b
        → ∥ AreIndependent (plan_of plan) a b ⊎ AreOrdered (tic_of plan on number) a b ∥₁
    apart a b first due_a due_b other =
        ∥∥₁_map (settled plan accepted on number a b (record {
          first_there = due_there (tic_of plan on number) a due_a;
          second_there = due_there (tic_of plan on number) b due_b;
          first_due = chosen keys (tic_of plan on number) a due_a;
          second_due = chosen keys (tic_of plan on number) b due_b;
          on_two_threads = other;
        })) by_cases
      where
        by_cases : AreSettled (plan_of plan) a b → AreIndependent (plan_of plan) a b ⊎ AreOrdered (tic_of plan on number) a b
        by_cases (inl i) = inl i
        by_cases (inr (inl o)) = inr (ordered_of plan on number a b (pair_of keys plan on number a b due_a due_b o))
        by_cases (inr (inr o)) = absurd (no_way_back plan on number a b (forward plan accepted)
            (λ k j due_k due_j. one_first plan.program.jobs (due_jobs (tic_of plan on number)) k j ordered due_k due_j)
            first due_a due_b (ordered_of plan on number b a (pair_of keys plan on number b a due_b due_a o)))
