-- The key order of some of the jobs, and which jobs are due.
use Rattle.std.proofs.Common.{◌≡◌, ℕ, suc, ◌+◌, ◌==◌, ◌<◌, ◌≤◌, List, [], ◌∷◌, length, Bool, true, false, ◌&&◌, ◌||◌, refl, sym, ◌∙◌, ap, arith}
use Rattle.std.proofs.Math.Bool.{and-false}
use Rattle.std.proofs.lemmas.Bool.{eqb-true}
use Rattle.std.specs.Prelude.{cond, filter}
use Rattle.trick_base.proofs.Numbers.{other_than_less}
use Rattle.trick_cycle.specs.Due.{is_due_at}
use Rattle.trick_lang.specs.declared.class.Class.TheVariants as class
use Rattle.trick_lang.specs.declared.job.Job.{Job}
use Rattle.trick_model.proofs.Keys.{key_order_is_one}
use Rattle.trick_model.specs.Laws.{AreInKeyOrder, AreJobs, IsBefore, is_among}
use Rattle.trick_model.specs.Order.{in_key_order, is_of_class, jobs_at}
use Rattle.trick_model.specs.Plan.{is_on_scheduled, job_numbers, numbers_from}
use Rattle.trick_model.specs.PlanOf.{plan_of}
use Rattle.trick_model.specs.declared.flags.Flags.{Flags}
use Rattle.trick_model.specs.declared.plan.Plan.{Plan as PlanValue}
use Rattle.trick_queue.specs.Line.{queue_of, times_at}

-- ---- tests

mix_on : (e t a : Bool) → (e ≡ true → t ≡ true) → (e || (t && a)) ≡ (t && (e || a))
mix_on true true a h = refl
mix_on true false a h = sym (h refl)
mix_on false t a h = refl

mix_off : (e t a : Bool) → (e ≡ true → t ≡ false) → (t && a) ≡ (t && (e || a))
mix_off false t a h = refl
mix_off true false a h = refl
mix_off true true a h = let no : true ≡ false = h refl in cc

-- ---- filtered lists

pub among_filter : (test : ℕ → Bool) (m : ℕ) (xs : List ℕ) → is_among m (filter test xs) ≡ (test m && is_among m xs)
among_filter test m [] = sym (and-false (test m))
among_filter test m (x ∷ xs) = by_test (among_filter test m xs) (test x) refl
  where
    by_test : is_among m (filter test xs) ≡ (test m && is_among m xs) → (b : Bool) → test x ≡ b → is_among m (cond b (x ∷ filter test xs) (filter test xs)) ≡ (test m && ((x == m) || is_among m xs))
    by_test others true e = ap (λ (b : Bool). (x == m) || b) others
        ∙ mix_on (x == m) (test m) (is_among m xs) (λ h. ap test (sym (eqb-true x m h)) ∙ e)
    by_test others false e = others ∙ mix_off (x == m) (test m) (is_among m xs) (λ h. ap test (sym (eqb-true x m h)) ∙ e)

pub filter_both : (p q : ℕ → Bool) (xs : List ℕ) → filter q (filter p xs) ≡ filter (λ k. p k && q k) xs
filter_both p q [] = refl
filter_both p q (x ∷ xs) = by_test (filter_both p q xs) (p x)
  where
    by_test : filter q (filter p xs) ≡ filter (λ k. p k && q k) xs → (b : Bool) → filter q (cond b (x ∷ filter p xs) (filter p xs))
        ≡ cond (b && q x) (x ∷ filter (λ k. p k && q k) xs) (filter (λ k. p k && q k) xs)
    by_test others true = ap (λ l. cond (q x) (x ∷ l) l) others
    by_test others false = others

pub filter_same : (p q : ℕ → Bool) → ((k : ℕ) → p k ≡ q k) → (xs : List ℕ) → filter p xs ≡ filter q xs
filter_same p q same [] = refl
filter_same p q same (x ∷ xs) = ap (λ b. cond b (x ∷ filter p xs) (filter p xs)) (same x) ∙ ap (λ l. cond (q x) (x ∷ l) l) (filter_same p q same xs)

and_swap : (a b c : Bool) → ((a && b) && c) ≡ ((a && c) && b)
and_swap true true c = sym (and_true c)
  where
    and_true : (b : Bool) → (b && true) ≡ b
    and_true true = refl
    and_true false = refl
and_swap true false c = sym (and-false c)
and_swap false b c = refl

-- ---- key order

before_kept : (jobs : List Job) (test : ℕ → Bool) (k : ℕ) (js : List ℕ) → IsBefore jobs k js → IsBefore jobs k (filter test js)
before_kept jobs test k [] before = tt
before_kept jobs test k (j ∷ js) before = by_test (before_kept jobs test k js before.1) (test j)
  where
    by_test : IsBefore jobs k (filter test js) → (b : Bool) → IsBefore jobs k (cond b (j ∷ filter test js) (filter test js))
    by_test others true = (before.0, others)
    by_test others false = others

pub order_kept : (jobs : List Job) (test : ℕ → Bool) (ks : List ℕ) → AreInKeyOrder jobs ks → AreInKeyOrder jobs (filter test ks)
order_kept jobs test [] ordered = tt
order_kept jobs test (k ∷ ks) ordered = by_test (order_kept jobs test ks ordered.1) (test k)
  where
    by_test : AreInKeyOrder jobs (filter test ks) → (b : Bool) → AreInKeyOrder jobs (cond b (k ∷ filter test ks) (filter test ks))
    by_test others true = (before_kept jobs test k ks ordered.0, others)
    by_test others false = others

pub jobs_kept : (jobs : List Job) (test : ℕ → Bool) (ks : List ℕ) → AreJobs jobs ks → AreJobs jobs (filter test ks)
jobs_kept jobs test [] are = tt
jobs_kept jobs test (k ∷ ks) are = by_test (jobs_kept jobs test ks are.2) (test k)
  where
    by_test : AreJobs jobs (filter test ks) → (b : Bool) → AreJobs jobs (cond b (k ∷ filter test ks) (filter test ks))
    by_test others true = (are.0, among_filter test k ks ∙ ap (λ b. test k && b) are.1 ∙ and-false (test k), others)
    by_test others false = others

not_later : {A : Type 0} (k j : ℕ) (xs : List A) → k < j → is_among k (numbers_from j xs) ≡ false
not_later k j [] less = refl
not_later k j (x ∷ xs) less = ap (λ b. b || is_among k (numbers_from (suc j) xs)) (other_than_less j k less) ∙ not_later k (suc j) xs (omega arith)

pub numbers_are : (all : List Job) {A : Type 0} (k : ℕ) (xs : List A) → k + length xs ≤ length all → AreJobs all (numbers_from k xs)
numbers_are all k [] fits = tt
numbers_are all k (x ∷ xs) fits = (omega arith, not_later k (suc k) xs (omega arith), numbers_are all (suc k) xs (omega arith))

pub filter_order : (plan : PlanValue) (test : ℕ → Bool) (ks : List ℕ) → AreJobs plan.program.jobs ks
    → filter test (in_key_order plan.program.jobs ks) ≡ in_key_order plan.program.jobs (filter test ks)
filter_order plan test ks are =
    let jobs = plan.program.jobs in
    key_order_is_one.one jobs (filter test (in_key_order jobs ks)) (in_key_order jobs (filter test ks))
    (order_kept jobs test (in_key_order jobs ks) (key_order_is_one.ordered plan ks are))
    (key_order_is_one.ordered plan (filter test ks) (jobs_kept jobs test ks are))
    (λ m. among_filter test m (in_key_order jobs ks) ∙ ap (λ b. test m && b) (sym (key_order_is_one.same jobs ks m))
    ∙ sym (among_filter test m ks) ∙ key_order_is_one.same jobs (filter test ks) m)

-- The jobs of the queue that are due at a tic are the due jobs of the tic.
pub queue_due : (plan : PlanValue) (on : Flags) (tic : ℕ)
    → filter (λ k. is_due_at (times_at plan.program.jobs k) tic) (queue_of (plan_of plan)) ≡ jobs_at (plan_of plan) on tic
queue_due plan on tic =
    let jobs = plan.program.jobs in
    let c = is_of_class jobs class.Scheduled in
    let s = is_on_scheduled jobs plan.threads in
    let d = λ (k : ℕ). is_due_at (times_at jobs k) tic in
    let numbers = job_numbers jobs in
    let are : AreJobs jobs (filter c numbers) = jobs_kept jobs c numbers (numbers_are jobs 0 jobs (omega arith)) in
    ap (filter d) (filter_order plan s (filter c numbers) are)
    ∙ filter_order plan d (filter s (filter c numbers)) (jobs_kept jobs s (filter c numbers) are)
    ∙ ap (in_key_order jobs) (
    ap (filter d) (filter_both c s numbers)
    ∙ filter_both (λ k. c k && s k) d numbers
    ∙ filter_same (λ k. (c k && s k) && d k) (λ k. (c k && d k) && s k) (λ k. and_swap (c k) (s k) (d k)) numbers)
