-- The first job of a list in key order is the least.
use Rattle.std.proofs.Common.{◌≡◌, ◌⊎◌, inl, inr, ℕ, Bool, true, false, cond, List, [], ◌∷◌, Some, None, IsTrue, refl, sym, ◌∙◌, ap, subst, arith}
use Rattle.std.proofs.lemmas.Bool.{and_from, and_parts}
use Rattle.std.specs.Prelude.{filter}
use Rattle.trick_phase_board.specs.Search.{find_first}
use Rattle.trick_phase_board.specs.Tables.{scheduled}
use Rattle.trick_lang.specs.declared.class.Class.TheVariants as class
use Rattle.trick_lang.specs.declared.job.Job.{Job}
use Rattle.trick_lang.specs.declared.job.JobId.{JobId}
use Rattle.trick_model.specs.Laws.{AreInKeyOrder, KeyOrderIsOne, is_among}
use Rattle.trick_model.specs.Order.{is_due, is_of_class, precedes}
use Rattle.trick_model.specs.Plan.{job_numbers}
use Rattle.trick_model.specs.PlanOf.{plan_of}
use Rattle.trick_model.specs.Valid.{ids}
use Rattle.trick_model.specs.declared.flags.Flags.{Flags}
use Rattle.trick_model.specs.declared.plan.Plan.{Plan as PlanValue}
use Rattle.trick_queue.proofs.Orders.{order_kept}
use Rattle.trick_phase_schedules.proofs.Due.{among_filter, chosen, due_there, is_chosen, jobs_kept, numbers_among, numbers_are}
use Rattle.trick_phase_schedules.proofs.Keys.{among_cases, among_first, among_rest, before_among, none_among, not_both, not_itself}
use Rattle.trick_phase_schedules.specs.Tics.{IsDueIn, due_jobs, tic_of}

-- ---- lists in key order

-- the jobs of class scheduled that pass a test are in key order
pub tested_order : KeyOrderIsOne → (plan : PlanValue) (test : ℕ → Bool) → AreInKeyOrder plan.program.jobs (filter test (scheduled (plan_of plan)))
tested_order law plan test =
    let jobs = plan.program.jobs in
    order_kept jobs test (scheduled (plan_of plan)) (law.ordered plan (filter (is_of_class jobs class.Scheduled) (job_numbers jobs))
    (jobs_kept jobs (is_of_class jobs class.Scheduled) (job_numbers jobs) (numbers_are jobs 0 jobs (omega arith))))

-- the due jobs are in key order
pub due_order : KeyOrderIsOne → (plan : PlanValue) (on : Flags) (number : ℕ) → AreInKeyOrder plan.program.jobs (due_jobs (tic_of plan on number))
due_order law plan on number =
    let jobs = plan.program.jobs in
    law.ordered plan (filter (is_chosen (tic_of plan on number)) (job_numbers jobs))
    (jobs_kept jobs (is_chosen (tic_of plan on number)) (job_numbers jobs) (numbers_are jobs 0 jobs (omega arith)))

-- a due job is of class scheduled
pub due_scheduled : KeyOrderIsOne → (plan : PlanValue) (on : Flags) (number k : ℕ) → IsDueIn (tic_of plan on number) k
    → IsTrue (is_among k (scheduled (plan_of plan)))
due_scheduled law plan on number k due =
    let jobs = plan.program.jobs in
    let here = (and_parts (is_due (plan_of plan) on number k) _ (chosen law (tic_of plan on number) k due)).0 in
    sym (law.same jobs (filter (is_of_class jobs class.Scheduled) (job_numbers jobs)) k)
    ∙ among_filter (is_of_class jobs class.Scheduled) k (job_numbers jobs)
    ∙ and_from (is_of_class jobs class.Scheduled k) _ (and_parts (is_of_class jobs class.Scheduled k) _ here).0
    (let there = due_there (tic_of plan on number) k due in numbers_among k 0 jobs (omega arith) (omega arith))

pub among_tested : (test : ℕ → Bool) (k : ℕ) (ks : List ℕ) → IsTrue (test k) → IsTrue (is_among k ks) → IsTrue (is_among k (filter test ks))
among_tested test k ks passes among = among_filter test k ks ∙ and_from (test k) _ passes among

pub tested : (test : ℕ → Bool) (k : ℕ) (ks : List ℕ) → IsTrue (is_among k (filter test ks)) → IsTrue (test k)
tested test k ks among = (and_parts (test k) _ (sym (among_filter test k ks) ∙ among)).0

-- ---- the first of a list

pub find_none : (test : ℕ → Bool) (jobs : List JobId) → find_first test jobs ≡ None → (k : ℕ) → IsTrue (is_among k (ids jobs)) → IsTrue (test k) → ⊥
find_none test [] is k among passes = none_among k among
find_none test (job ∷ jobs) is k among passes = by_test (λ e. find_none test jobs e k) (test job.0) refl is (among_cases k job.0 (ids jobs) among)
  where
    by_test : (find_first test jobs ≡ None → IsTrue (is_among k (ids jobs)) → IsTrue (test k) → ⊥) → (b : Bool) → test job.0 ≡ b
        → cond b (Some job) (find_first test jobs) ≡ None → (job.0 ≡ k) ⊎ IsTrue (is_among k (ids jobs)) → ⊥
    by_test others true e none here = cc
    by_test others false e none (inl same) = let off : test k ≡ false = ap test (sym same) ∙ e in cc
    by_test others false e none (inr later) = others none later passes

pub record Found (jobs : List Job) (test : ℕ → Bool) (ks : List ℕ) (k : ℕ) : Type 0 where
  pub among : IsTrue (is_among k ks)
  pub passes : IsTrue (test k)
  pub least : (j : ℕ) → IsTrue (is_among j ks) → IsTrue (test j) → IsTrue (precedes jobs j k) → ⊥

pub find_some : (all : List Job) (test : ℕ → Bool) (jobs : List JobId) (job : JobId) → AreInKeyOrder all (ids jobs) → find_first test jobs ≡ Some job
    → Found all test (ids jobs) job.0
find_some all test [] job ordered is = cc
find_some all test (first ∷ jobs) job ordered is =
    by_test (λ e. find_some all test jobs job ordered.1 e) (test first.0) refl is
  where
    here : test first.0 ≡ true → Found all test (first.0 ∷ ids jobs) first.0
    here e = record {
      among = among_first first.0 (ids jobs);
      passes = e;
      least = λ j among passes before. elim (among_cases j first.0 (ids jobs) among) [
        | inl same ↦ not_itself all first.0 (subst (λ (n : ℕ). IsTrue (precedes all n first.0)) (sym same) before)
        | inr later ↦ not_both all first.0 j (before_among all first.0 (ids jobs) j ordered.0 later) before
      ];
    }

    same_job : Some first ≡ Some job → first.0 ≡ job.0
    same_job e = let same : first ≡ job = cc in ap (λ (j : JobId). j.0) same

    by_test : (find_first test jobs ≡ Some job → Found all test (ids jobs) job.0) → (b : Bool) → test first.0 ≡ b
        → cond b (Some first) (find_first test jobs) ≡ Some job → Found all test (first.0 ∷ ids jobs) job.0
    by_test others true e found = subst (λ (n : ℕ). Found all test (first.0 ∷ ids jobs) n) (same_job found) (here e)
    by_test others false e found =
        let rest = others found in record {
          among = among_rest job.0 first.0 (ids jobs) rest.among;
          passes = rest.passes;
          least = λ j among passes before. elim (among_cases j first.0 (ids jobs) among) [
            | inl same ↦ let off : test j ≡ false = ap test (sym same) ∙ e in cc
            | inr later ↦ rest.least j later passes before
          ];
        }
