-- The jobs of a queue: which they are, and that they have times.
use Rattle.std.proofs.Common.{◌≡◌, ℕ, zero, suc, ◌+◌, ◌==◌, ◌<◌, ◌≤◌, List, [], ◌∷◌, ◌++◌, length, get_or, take, Bool, true, false, refl, sym, ◌∙◌, ap, subst, arith, inl, inr}
use Rattle.std.proofs.lemmas.Bool.Decides.{nat_tests}
use Rattle.std.proofs.lemmas.List.Elements.{filter_more}
use Rattle.std.proofs.lemmas.List.Sums.{AllPass-from_list_all}
use Rattle.std.specs.Prelude.{cond, filter}
use Rattle.trick_cycle.specs.Due.{IsInRange}
use Rattle.trick_lang.specs.Valid.{has_right_times, have_right_times, is_scheduled_right}
use Rattle.trick_lang.specs.declared.class.Class.{Class}
use Rattle.trick_lang.specs.declared.class.Class.TheVariants as class
use Rattle.trick_lang.specs.declared.job.Job.{Job}
use Rattle.trick_lang.specs.declared.job.JobId.{JobId}
use Rattle.trick_model.proofs.Lengths.{ids_length}
use Rattle.trick_model.specs.Order.{in_key_order, is_of_class, jobs_in, precedes, put_in, rank}
use Rattle.trick_model.specs.Plan.{Plan, is_on_scheduled, job_at, job_numbers, no_job, numbers_from}
use Rattle.trick_model.specs.Valid.{ids}
use Rattle.trick_queue.proofs.Trees.{below_or, past}
use Rattle.trick_queue.specs.Line.{id_at, queue_of, times_at}

-- ---- times

right_of : (c : Class) (job : Job) → (rank c == 2) ≡ true → has_right_times c job ≡ true → is_scheduled_right job ≡ true
right_of class.Scheduled job is right = right
right_of class.DefaultData job is right = cc
right_of class.Initialization job is right = cc
right_of class.TopOfFrame job is right = cc
right_of class.EndOfFrame job is right = cc
right_of class.Freeze job is right = cc
right_of class.Unfreeze job is right = cc
right_of class.Checkpoint job is right = cc
right_of class.Restart job is right = cc
right_of class.Shutdown job is right = cc

in_range_of : (job : Job) → is_scheduled_right job ≡ true → IsInRange (record { start = job.start; cycle = job.cycle; stop = job.stop })
in_range_of job right = record {
  cycle_positive = grind (arith, nat_tests, right);
  start_in_range = grind (arith, nat_tests, right);
  cycle_in_range = grind (arith, nat_tests, right);
  stop_in_range = grind (arith, nat_tests, right);
}

pub times_in_range : (jobs : List Job) (k : ℕ) → have_right_times jobs ≡ true → is_of_class jobs class.Scheduled k ≡ true → IsInRange (times_at jobs k)
times_in_range jobs k right is = elim (below_or k (length jobs)) [
  | inl less ↦ in_range_of (job_at jobs k) (right_of (job_at jobs k).class (job_at jobs k) is (AllPass-from_list_all (λ (job : Job). has_right_times job.class job) jobs right k no_job less))
  | inr all ↦ let none : (rank class.Restart == 2) ≡ true = subst (λ (j : Job). (rank j.class == 2) ≡ true) (past jobs k no_job all) is in cc
]

-- a job of class scheduled is one of the program
pub scheduled_there : (jobs : List Job) (k : ℕ) → is_of_class jobs class.Scheduled k ≡ true → k < length jobs
scheduled_there jobs k is = elim (below_or k (length jobs)) [
  | inl less ↦ less
  | inr all ↦ let none : (rank class.Restart == 2) ≡ true = subst (λ (j : Job). (rank j.class == 2) ≡ true) (past jobs k no_job all) is in cc
]

-- ---- the class of each job

Passes : (ℕ → Bool) → List ℕ → Type 0
Passes test [] = Unit {0}
Passes test (k ∷ ks) = (test k ≡ true) × Passes test ks

filter_passes : (test : ℕ → Bool) (ks : List ℕ) → Passes test (filter test ks)
unfolding Passes
filter_passes test [] = tt
filter_passes test (k ∷ ks) = by_test (filter_passes test ks) (test k) refl
  where
    by_test : Passes test (filter test ks) → (b : Bool) → test k ≡ b → Passes test (cond b (k ∷ filter test ks) (filter test ks))
    by_test others true e = (e, others)
    by_test others false e = others

filter_keeps : (test other : ℕ → Bool) (ks : List ℕ) → Passes test ks → Passes test (filter other ks)
unfolding Passes
filter_keeps test other [] passes = tt
filter_keeps test other (k ∷ ks) passes = by_test passes.0 (filter_keeps test other ks passes.1) (other k)
  where
    by_test : test k ≡ true → Passes test (filter other ks) → (b : Bool) → Passes test (cond b (k ∷ filter other ks) (filter other ks))
    by_test first others true = (first, others)
    by_test first others false = others

put_passes : (jobs : List Job) (test : ℕ → Bool) (k : ℕ) (js : List ℕ) → test k ≡ true → Passes test js → Passes test (put_in jobs k js)
unfolding Passes
put_passes jobs test k [] first passes = (first, tt)
put_passes jobs test k (j ∷ js) first passes = by_test first passes (put_passes jobs test k js first passes.1) (precedes jobs k j)
  where
    by_test : test k ≡ true → Passes test (j ∷ js) → Passes test (put_in jobs k js) → (b : Bool) → Passes test (elim b [ true ↦ k ∷ j ∷ js | false ↦ j ∷ put_in jobs k js ])
    by_test here all others true = (here, all)
    by_test here all others false = (all.0, others)

order_passes : (jobs : List Job) (test : ℕ → Bool) (ks : List ℕ) → Passes test ks → Passes test (in_key_order jobs ks)
unfolding Passes
order_passes jobs test [] passes = tt
order_passes jobs test (k ∷ ks) passes = put_passes jobs test k (in_key_order jobs ks) passes.0 (order_passes jobs test ks passes.1)

passes_at : (test : ℕ → Bool) (all : List JobId) → Passes test (ids all) → (place : ℕ) → place < length all → test (id_at all place) ≡ true
unfolding Passes
passes_at test [] passes place less = absurd (omega arith)
passes_at test (job ∷ all) passes zero less = passes.0
passes_at test (job ∷ all) passes (suc place) less = passes_at test all passes.1 place (omega arith)

pub all_scheduled : (p : Plan) (all : List JobId) → ids all ≡ queue_of p → (place : ℕ) → place < length all → is_of_class p.jobs class.Scheduled (id_at all place) ≡ true
all_scheduled p all is =
    let c = is_of_class p.jobs class.Scheduled in
    passes_at c all (subst (Passes c) (sym is)
    (filter_keeps c (is_on_scheduled p.jobs p.threads) (jobs_in p.jobs class.Scheduled)
    (order_passes p.jobs c (filter c (job_numbers p.jobs)) (filter_passes c (job_numbers p.jobs)))))

-- ---- how many there are

pub filter_few : (test : ℕ → Bool) (ks : List ℕ) → length (filter test ks) ≤ length ks
filter_few test [] = omega arith
filter_few test (k ∷ ks) = by_test (filter_few test ks) (test k)
  where
    by_test : length (filter test ks) ≤ length ks → (b : Bool) → length (cond b (k ∷ filter test ks) (filter test ks)) ≤ suc (length ks)
    by_test few true = omega arith
    by_test few false = omega arith

put_length : (jobs : List Job) (k : ℕ) (js : List ℕ) → length (put_in jobs k js) ≡ suc (length js)
put_length jobs k [] = refl
put_length jobs k (j ∷ js) = by_test (put_length jobs k js) (precedes jobs k j)
  where
    by_test : length (put_in jobs k js) ≡ suc (length js) → (b : Bool) → length {A = ℕ} (elim b [ true ↦ k ∷ j ∷ js | false ↦ j ∷ put_in jobs k js ]) ≡ suc (suc (length js))
    by_test others true = refl
    by_test others false = ap suc others

pub order_length : (jobs : List Job) (ks : List ℕ) → length (in_key_order jobs ks) ≡ length ks
order_length jobs [] = refl
order_length jobs (k ∷ ks) = put_length jobs k (in_key_order jobs ks) ∙ ap suc (order_length jobs ks)

pub numbers_length : {A : Type 0} (k : ℕ) (xs : List A) → length (numbers_from k xs) ≡ length xs
numbers_length k [] = refl
numbers_length k (x ∷ xs) = ap suc (numbers_length (suc k) xs)

pub few_jobs : (p : Plan) (all : List JobId) → ids all ≡ queue_of p → length all ≤ length p.jobs
few_jobs p all is =
    let c = is_of_class p.jobs class.Scheduled in
    omega (
      arith,
      sym (ids_length all),
      ap length is,
      filter_few (is_on_scheduled p.jobs p.threads) (jobs_in p.jobs class.Scheduled),
      order_length p.jobs (filter c (job_numbers p.jobs)),
      filter_few c (job_numbers p.jobs),
      numbers_length 0 p.jobs,
    )

-- ---- the queue of a plan

pub ids_more : (all : List JobId) (job : JobId) (wanted : Bool) → ids (all ++ cond wanted (job ∷ []) []) ≡ ids all ++ cond wanted (job.0 ∷ []) []
ids_more [] job true = refl
ids_more [] job false = refl
ids_more (first ∷ all) job wanted = ap (λ l. first.0 ∷ l) (ids_more all job wanted)

pub ids_at : (all : List JobId) (place : ℕ) (d : JobId) → place < length all → get_or (ids all) place 0 ≡ (get_or all place d).0
ids_at [] place d less = absurd (omega arith)
ids_at (first ∷ all) zero d less = refl
ids_at (first ∷ all) (suc place) d less = ids_at all place d (omega arith)

pub queue_more : (test : ℕ → Bool) (all : List JobId) (i : ℕ) (d job : JobId) (jobs : List JobId) → i < length all → job ≡ get_or all i d
    → ids jobs ≡ filter test (take i (ids all))
    → ids (jobs ++ cond (test job.0) (job ∷ []) []) ≡ filter test (take (i + 1) (ids all))
queue_more test all i d job jobs less is so_far =
    ids_more jobs job (test job.0) ∙ ap (λ l. l ++ cond (test job.0) (job.0 ∷ []) []) so_far
    ∙ sym (filter_more test (ids all) i 0 (omega (arith, ids_length all))
    ∙ ap (λ k. filter test (take i (ids all)) ++ cond (test k) (k ∷ []) []) (ids_at all i d less ∙ ap (λ (j : JobId). j.0) (sym is)))
