-- The thread of each due job is thread 0, or a child thread that gets a worker.
use Rattle.std.proofs.Common.{◌≡◌, ◌∙◌, ℕ, suc, ◌<◌, ◌≤◌, ◌==◌, nat_le, Bool, true, false, ◌&&◌, ◌||◌, IsTrue, List, [], ◌∷◌, length, arith, refl, sym}
use Rattle.std.proofs.lemmas.Bool.{and_from, eqb-true, leb-true}
use Rattle.std.proofs.lemmas.Bool.Decides.{nat_tests}
use Rattle.std.proofs.lemmas.List.Recursion.{or_at}
use Rattle.std.proofs.lemmas.List.Sums.{AllPass-from_list_all}
use Rattle.std.specs.List.{list_any}
use Rattle.std.specs.Prelude.{filter}
use Rattle.trick_base.proofs.Numbers.{equal_to_itself}
use Rattle.trick_base.proofs.Truths.{second_holds}
use Rattle.trick_phase_board.proofs.Firsts.{among_tested, tested}
use Rattle.trick_crew_team.specs.Children.{child_numbers, children, is_child}
use Rattle.trick_lang.specs.Valid.{have_right_threads}
use Rattle.trick_lang.specs.declared.job.Job.{Job}
use Rattle.trick_model.proofs.Keys.{key_order_is_one}
use Rattle.trick_model.proofs.Ranges.{Below, filter_below, jobs_below}
use Rattle.trick_model.specs.Laws.{is_among}
use Rattle.trick_model.specs.Order.{is_due, jobs_at}
use Rattle.trick_model.specs.Plan.{is_on_scheduled, job_numbers, no_job, thread_of}
use Rattle.trick_model.specs.PlanOf.{plan_of}
use Rattle.trick_model.specs.declared.flags.Flags.{Flags}
use Rattle.trick_model.specs.declared.plan.Plan.{Plan}

-- what the first test gives, the second one does not take
either_way : (a b c : Bool) → (IsTrue b → IsTrue c) → IsTrue (a || b) → IsTrue (a || c)
either_way true b c step some = refl
either_way false b c step some = step some

less_of : (b : Bool) (m k n : ℕ) → (IsTrue b → m ≡ k) → m < n → (c : Bool) → (IsTrue c → k < n) → IsTrue (b || c) → k < n
less_of true m k n same less c later some = let is = same refl in omega (arith, is, less)
less_of false m k n same less c later some = later some

-- one of some numbers below n is below n
among_below : (k n : ℕ) (ks : List ℕ) → Below n ks → IsTrue (is_among k ks) → k < n
among_below k n [] below among = absurd (cc)
among_below k n (j ∷ ks) below among = less_of (j == k) j k n (eqb-true j k) below.0 (is_among k ks) (among_below k n ks below.1) among

-- a job of the list is on its thread
on_thread : (jobs : List Job) (k : ℕ) → k < length jobs → IsTrue (list_any (λ (job : Job). job.thread == thread_of jobs k) jobs)
on_thread jobs k there =
    let on = λ (job : Job). job.thread == thread_of jobs k in
    or_at (list_any on) on refl (λ _ _. refl) jobs k no_job there (equal_to_itself (thread_of jobs k))

thread_small : (jobs : List Job) (k : ℕ) → IsTrue (have_right_threads jobs) → k < length jobs → thread_of jobs k ≤ 15
thread_small jobs k right there = leb-true _ _ (AllPass-from_list_all (λ (job : Job). nat_le job.thread 15) jobs right k no_job there)

-- the threads that there can be
numbered : (n : ℕ) → n ≤ 15 → IsTrue (is_among n (0 ∷ child_numbers))
numbered n small = grind (arith, nat_tests)

chosen : (test : ℕ → Bool) (n : ℕ) → IsTrue (test n) → IsTrue (is_among n (0 ∷ child_numbers)) → IsTrue (is_among n (0 ∷ filter test child_numbers))
chosen test n passes among = either_way (0 == n) (is_among n child_numbers) (is_among n (filter test child_numbers)) (among_tested test n child_numbers passes) among

pub due_threads_are_served : (plan : Plan) (on : Flags) (tic job : ℕ) → IsTrue (is_among job (jobs_at (plan_of plan) on tic)) → IsTrue (is_among (thread_of plan.program.jobs job) (0 ∷ children plan))
due_threads_are_served plan on tic job due =
    let jobs = plan.program.jobs in
    let test = λ (k : ℕ). is_due (plan_of plan) on tic k && is_on_scheduled jobs plan.threads k in
    let among : IsTrue (is_among job (filter test (job_numbers jobs))) = key_order_is_one.same jobs (filter test (job_numbers jobs)) job ∙ due in
    let there : job < length jobs = among_below job (length jobs) (filter test (job_numbers jobs)) (filter_below (length jobs) test (job_numbers jobs) (jobs_below jobs)) among in
    let scheduled = second_holds (is_due (plan_of plan) on tic job) (is_on_scheduled jobs plan.threads job) (tested test job (job_numbers jobs) among) in
    let thread = thread_of jobs job in
    chosen (is_child plan) thread (and_from (is_on_scheduled jobs plan.threads job) (list_any (λ (j : Job). j.thread == thread) jobs) scheduled (on_thread jobs job there))
    (numbered thread (thread_small jobs job plan.program.right_threads there))
