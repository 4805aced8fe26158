-- The tables of a plan: threads that no job can have, and the pairs of one target.
use Rattle.std.proofs.Common.{◌≡◌, ℕ, ◌≤◌, ◌==◌, ◌&&◌, ◌||◌, nat_le, Bool, true, false, cond, List, [], ◌∷◌, length, refl, sym, ◌∙◌, ap, subst, arith, inl, inr}
use Rattle.std.proofs.lemmas.Bool.{and_left, cases_lt, leb-true}
use Rattle.std.proofs.lemmas.Bool.Decides.{nat_tests}
use Rattle.std.proofs.lemmas.List.{get_or_past}
use Rattle.std.proofs.lemmas.List.Sums.{AllPass-from_list_all}
use Rattle.std.specs.Prelude.{filter, not}
use Rattle.trick_phase_board.specs.Tables.{awaits, depended_of, is_ahead, line_of, scheduled}
use Rattle.trick_lang.specs.Valid.{have_right_threads}
use Rattle.trick_lang.specs.declared.job.Job.{Job}
use Rattle.trick_model.specs.Plan.{Plan, no_job, thread_of}
use Rattle.trick_model.specs.declared.depends.Depends.{Depends}
use Rattle.trick_phase_schedules.specs.Tics.{depends_on}

-- where no job passes none is left
pub none_pass : (test : ℕ → Bool) (ks : List ℕ) → ((k : ℕ) → test k ≡ false) → filter test ks ≡ []
none_pass test [] none = refl
none_pass test (k ∷ ks) none = ap (λ (b : Bool). cond b (k ∷ filter test ks) (filter test ks)) (none k) ∙ none_pass test ks none

-- a thread is at most 15
pub thread_small : (jobs : List Job) (k : ℕ) → have_right_threads jobs ≡ true → thread_of jobs k ≤ 15
thread_small jobs k right = elim (cases_lt k (length jobs)) [
  | inl less ↦ leb-true _ _ (AllPass-from_list_all (λ (job : Job). nat_le job.thread 15) jobs right k no_job less)
  | inr past ↦ subst (λ (job : Job). job.thread ≤ 15) (sym (get_or_past jobs k no_job past)) (omega arith)
]

differ : (n m : ℕ) → n ≤ 15 → 16 ≤ m → (n == m) ≡ false
differ n m small large = grind (arith, nat_tests)

-- no job is on a thread above 15
pub no_line : (p : Plan) (thread : ℕ) → have_right_threads p.jobs ≡ true → 16 ≤ thread → line_of p thread ≡ []
no_line p thread right large =
    none_pass (λ k. thread_of p.jobs k == thread) (scheduled p) (λ k. differ (thread_of p.jobs k) thread (thread_small p.jobs k right) large)

-- ---- pairs

-- the pairs of a target alone say what it depends on
own_pairs : (pairs : List Depends) (k a : ℕ) → depends_on (filter (λ (pair : Depends). (pair.target).0 == k) pairs) k a ≡ depends_on pairs k a
own_pairs [] k a = refl
own_pairs (pair ∷ pairs) k a = by_test (own_pairs pairs k a) ((pair.target).0 == k) refl
  where
    by_test : depends_on (filter (λ (pair : Depends). (pair.target).0 == k) pairs) k a ≡ depends_on pairs k a → (b : Bool) → ((pair.target).0 == k) ≡ b
        → depends_on (cond b (pair ∷ filter (λ (pair : Depends). (pair.target).0 == k) pairs) (filter (λ (pair : Depends). (pair.target).0 == k) pairs)) k a
        ≡ (((pair.target).0 == k) && ((pair.depended).0 == a)) || depends_on pairs k a
    by_test others true e = ap (λ (r : Bool). (((pair.target).0 == k) && ((pair.depended).0 == a)) || r) others
    by_test others false e = others ∙ ap (λ (b : Bool). (b && ((pair.depended).0 == a)) || depends_on pairs k a) (sym e)

-- a job without pairs depends on none
pub no_depended : (p : Plan) (k : ℕ) → filter (λ (pair : Depends). (pair.target).0 == k) p.depends ≡ [] → depended_of p k ≡ []
no_depended p k none =
    none_pass (awaits p.jobs p.depends k) (scheduled p)
    (λ a. and_left _ _ (sym (own_pairs p.depends k a) ∙ ap (λ (pairs : List Depends). depends_on pairs k a) none))

-- the pairs of a target alone say what it waits for
pub own_awaits : (jobs : List Job) (pairs : List Depends) (k a : ℕ)
    → awaits jobs (filter (λ (pair : Depends). (pair.target).0 == k) pairs) k a ≡ awaits jobs pairs k a
own_awaits jobs pairs k a = ap (λ (b : Bool). b && not (is_ahead jobs k a)) (own_pairs pairs k a)
