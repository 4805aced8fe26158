-- The jobs of a thread beside the tics: their order, and which of them work.
use Rattle.std.proofs.Common.{◌≡◌, ◌≢◌, ◌∙◌, inl, inr, ℕ, zero, suc, ◌<◌, ◌≤◌, ◌==◌, ◌&&◌, ◌||◌, Bool, true, false, IsTrue, List, [], ◌∷◌, length, Some, None, refl, sym, ap, subst, arith}
use Rattle.std.proofs.Math.Logic.{∥∥₁_elim}
use Rattle.std.proofs.lemmas.Bool.{and_from, eqb-true, or_left, or_right}
use Rattle.std.proofs.lemmas.Bool.Decides.{nat_tests}
use Rattle.std.specs.List.{slice_index_or}
use Rattle.std.specs.Prelude.{All, Option, cond, filter, flat_map}
use Rattle.trick_base.proofs.Truths.{first_holds, no_two_absurdities, second_holds}
use Rattle.trick_cycle.specs.Due.{is_due_at}
use Rattle.trick_lang.specs.declared.class.Class.TheVariants as class
use Rattle.trick_lang.specs.declared.job.Job.{Job}
use Rattle.trick_lang.specs.declared.job.JobId.{JobId}
use Rattle.trick_model.proofs.Keys.{key_order_is_one}
use Rattle.trick_model.proofs.Lengths.{ids_length}
use Rattle.trick_model.proofs.Ranges.{Below, filter_below, jobs_below}
use Rattle.trick_model.specs.Acceptance.{IsAccepted, IsNamedRight}
use Rattle.trick_model.specs.Access.{may_read, may_write, scope}
use Rattle.trick_model.specs.Beside.{find_thread, one_later}
use Rattle.trick_model.specs.Laws.{is_among}
use Rattle.trick_model.specs.Order.{in_key_order, is_due, is_of_class, jobs_in, rank}
use Rattle.trick_model.specs.Plan.{is_beside, job_numbers, jobs_of, no_job, numbers_from, thread_of}
use Rattle.trick_model.specs.PlanOf.{plan_of}
use Rattle.trick_model.specs.Valid.{IsMainRight, ids}
use Rattle.trick_model.specs.declared.flags.Flags.{Flags}
use Rattle.trick_model.specs.declared.plan.Plan.{Plan as PlanValue}
use Rattle.trick_model.specs.declared.taken.Taken.{Taken}
use Rattle.trick_model.specs.declared.thread.Process.{Process}
use Rattle.trick_model.specs.declared.thread.Process.TheVariants as process
use Rattle.trick_model.specs.declared.thread.Thread.{Thread}
use Rattle.trick_post_trays.proofs.Lists.{among_work, flat_same}
use Rattle.trick_post_trays.specs.Calendars.{due_of, line_work, scheduled_of}
use Rattle.trick_post_trays.specs.Trays.{AreThere, numbered}
use Rattle.trick_post_work.specs.Work.{CanStart, IsKindOf, found_or_none, jobs_at_work, thread_at, tics_between}
use Rattle.trick_post_work.specs.declared.posts.Job1.{Job1}
use Rattle.trick_post_work.specs.declared.posts.Job1.TheVariants as work
use Rattle.trick_queue.proofs.Orders.{among_filter, filter_both, filter_order, filter_same, jobs_kept, numbers_are}
use Rattle.trick_queue.proofs.Queued.{filter_few, numbers_length, order_length}
use Rattle.trick_queue.proofs.Trees.{below_or, past}
use Rattle.trick_queue.specs.Line.{AreScheduled, id_at, no_id, times_at}

-- ---- the thread that was handed something

-- it is one of the plan's, beside the tics, with this number
pub record IsBeside (threads : List Thread) (number : ℕ) (thread : Thread) : Type 0 where
  pub place : ℕ
  pub there : place < length threads
  pub is : (d : Thread) → slice_index_or threads place d ≡ thread
  pub beside : IsTrue (is_beside thread.process)
  pub numbered : thread.number ≡ number

Finds : List Thread → ℕ → Option (ℕ × Thread) → Type 0
Finds threads number None = Unit {0}
Finds threads number (Some found) = IsBeside threads number found.1

later_beside : (first : Thread) (threads : List Thread) (number : ℕ) (thread : Thread) → IsBeside threads number thread → IsBeside (first ∷ threads) number thread
later_beside first threads number thread b = record {
  place = suc b.place;
  there = let less : b.place < length threads = b.there in omega arith;
  is = b.is;
  beside = b.beside;
  numbered = b.numbered;
}

finds_later : (threads : List Thread) (number : ℕ) (found : Option (ℕ × Thread)) → Finds threads number found → Finds threads number (one_later found)
unfolding Finds
finds_later threads number None h = tt
finds_later threads number (Some found) h = h

finds_behind : (first : Thread) (threads : List Thread) (number : ℕ) (found : Option (ℕ × Thread)) → Finds threads number found → Finds (first ∷ threads) number found
unfolding Finds
finds_behind first threads number None h = tt
finds_behind first threads number (Some found) h = later_beside first threads number found.1 h

finds : (threads : List Thread) (number : ℕ) → Finds threads number (find_thread number (filter (λ (thread : Thread). is_beside thread.process) threads))
unfolding Finds
finds [] number = tt
finds (first ∷ threads) number = by_kind (finds_behind first threads number (find_thread number (filter (λ (thread : Thread). is_beside thread.process) threads)) (finds threads number)) (is_beside first.process) refl
  where
    by_number : Finds (first ∷ threads) number (find_thread number (filter (λ (thread : Thread). is_beside thread.process) threads)) → is_beside first.process ≡ true → (b : Bool) → (first.number == number) ≡ b
        → Finds (first ∷ threads) number (elim b [ true ↦ Some (0, first) | false ↦ one_later (find_thread number (filter (λ (thread : Thread). is_beside thread.process) threads)) ])
    by_number rest beside true e = record { place = 0; there = omega arith; is = λ d. refl; beside = beside; numbered = eqb-true first.number number e }
    by_number rest beside false e = finds_later (first ∷ threads) number (find_thread number (filter (λ (thread : Thread). is_beside thread.process) threads)) rest

    by_kind : Finds (first ∷ threads) number (find_thread number (filter (λ (thread : Thread). is_beside thread.process) threads)) → (b : Bool) → is_beside first.process ≡ b
        → Finds (first ∷ threads) number (find_thread number (cond b (first ∷ filter (λ (thread : Thread). is_beside thread.process) threads) (filter (λ (thread : Thread). is_beside thread.process) threads)))
    by_kind rest true e = by_number rest e (first.number == number) refl
    by_kind rest false e = rest

of_found : (threads : List Thread) (number : ℕ) (found : Option (ℕ × Thread)) (w : Job1) → Finds threads number found
    → IsKindOf (found_or_none found).process w → IsBeside threads number (found_or_none found)
unfolding Finds
of_found threads number None w h kind = absurd kind
of_found threads number (Some found) w h kind = h

pub started_thread : (plan : PlanValue) (number : ℕ) (taken : Taken) (w : Job1) → CanStart (plan_of plan) number taken w
    → IsBeside plan.threads number (thread_at (plan_of plan) number)
started_thread plan number taken w can =
    of_found plan.threads number (find_thread number (filter (λ (thread : Thread). is_beside thread.process) plan.threads)) w (finds plan.threads number) can.kind

-- what holds of each thread holds of it
pub of_thread : (P : Thread → Type 0) (threads : List Thread) (number : ℕ) (thread : Thread) → IsBeside threads number thread → All P threads → P thread
of_thread P threads number thread b all = subst P (b.is thread) (all b.place thread b.there)

-- ---- its number is not 0, so all of its jobs are of class scheduled

not_scheduled : (p : Process) → IsTrue (is_beside p) → p ≡ process.Scheduled → ⊥
not_scheduled p beside is = let e : is_beside p ≡ false = ap is_beside is in cc

not_main : (plan : PlanValue) (thread : Thread) → IsTrue (is_beside thread.process) → IsMainRight thread → IsNamedRight (plan_of plan) thread → thread.number ≢ 0
not_main plan thread beside right named is = by_name thread.named refl
  where
    by_name : (b : Bool) → thread.named ≡ b → ⊥
    by_name true e = (named e).0 is
    by_name false e = not_scheduled thread.process beside (right is (λ h. let off : true ≡ false = sym h ∙ e in cc))

abbrev pub IsScheduledOn : PlanValue → ℕ → Type 0
IsScheduledOn plan number = (k : ℕ) → (thread_of plan.program.jobs k == number) ≡ true → is_of_class plan.program.jobs class.Scheduled k ≡ true

pub scheduled_on : (plan : PlanValue) (number : ℕ) (thread : Thread) → IsBeside plan.threads number thread → ∥ IsAccepted (plan_of plan) ∥₁ → IsScheduledOn plan number
scheduled_on plan number thread b accepted k on = by_class (is_of_class plan.program.jobs class.Scheduled k) refl
  where
    not_zero : number ≢ 0
    not_zero e = ∥∥₁_elim accepted no_two_absurdities (λ (a : IsAccepted (plan_of plan)). not_main plan thread b.beside
        (of_thread IsMainRight plan.threads number thread b plan.main_right)
        (of_thread (IsNamedRight (plan_of plan)) plan.threads number thread b a.named) (b.numbered ∙ e))

    thread_is : thread_of plan.program.jobs k ≡ number
    thread_is = eqb-true (thread_of plan.program.jobs k) number on

    by_class : (c : Bool) → is_of_class plan.program.jobs class.Scheduled k ≡ c → is_of_class plan.program.jobs class.Scheduled k ≡ true
    by_class true e = e
    by_class false e = elim (below_or k (length plan.program.jobs)) [
      | inl less ↦ absurd (∥∥₁_elim accepted no_two_absurdities (λ (a : IsAccepted (plan_of plan)).
          not_zero (sym thread_is ∙ a.on_main k less (λ h. let off : true ≡ false = sym h ∙ e in cc))))
      | inr all ↦ absurd (not_zero (sym thread_is ∙ ap (λ (job : Job). job.thread) (past plan.program.jobs k no_job all)))
    ]

-- ---- its jobs and cells go by its number

pub jobs_by_number : (plan : PlanValue) (number : ℕ) (thread : Thread) → thread.number ≡ number
    → jobs_of plan.program.jobs thread ≡ jobs_of plan.program.jobs (numbered number)
jobs_by_number plan number thread is =
    ap (λ (n : ℕ). filter (λ k. thread_of plan.program.jobs k == n) (job_numbers plan.program.jobs)) is

pub scope_by_number : (plan : PlanValue) (number : ℕ) (thread : Thread) → thread.number ≡ number
    → scope (plan_of plan) thread ≡ scope (plan_of plan) (numbered number)
scope_by_number plan number thread is =
    ap (λ (ks : List ℕ). filter (λ cell. may_read (plan_of plan) ks cell || may_write (plan_of plan) ks cell) (numbers_from 0 (plan_of plan).names))
    (jobs_by_number plan number thread is)

-- ---- their order

swap : (a b c : Bool) → ((a && b) && c) ≡ (b && (a && c))
swap true b c = refl
swap false true c = refl
swap false false c = refl

drop_class : (c t : Bool) → (t ≡ true → c ≡ true) → (c && t) ≡ t
drop_class true t h = refl
drop_class false true h = h refl
drop_class false false h = refl

-- the jobs of a thread that are due at a tic, in key order
due_in_order : (plan : PlanValue) (number : ℕ) (on : Flags) (u : ℕ)
    → in_key_order plan.program.jobs (filter (is_due (plan_of plan) on u) (jobs_of plan.program.jobs (numbered number)))
    ≡ due_of plan.program.jobs (scheduled_of (plan_of plan) number) u
due_in_order plan number on u =
    let jobs = plan.program.jobs in
    let t = λ (k : ℕ). thread_of jobs k == number in
    let c = λ (k : ℕ). is_of_class jobs class.Scheduled k in
    let d = λ (k : ℕ). is_due_at (times_at jobs k) u in
    let numbers = job_numbers jobs in
    let are = jobs_kept jobs c numbers (numbers_are jobs 0 jobs (omega arith)) in
    sym (ap (filter d) (filter_order plan t (filter c numbers) are)
    ∙ filter_order plan d (filter t (filter c numbers)) (jobs_kept jobs t (filter c numbers) are)
    ∙ ap (in_key_order jobs) (
    ap (filter d) (filter_both c t numbers)
    ∙ filter_both (λ k. c k && t k) d numbers
    ∙ filter_same (λ k. (c k && t k) && d k) (λ k. t k && (c k && d k)) (λ k. swap (c k) (t k) (d k)) numbers
    ∙ sym (filter_both t (λ k. c k && d k) numbers)))

-- all jobs of a thread, in key order
all_in_order : (plan : PlanValue) (number : ℕ) → IsScheduledOn plan number
    → in_key_order plan.program.jobs (jobs_of plan.program.jobs (numbered number)) ≡ scheduled_of (plan_of plan) number
all_in_order plan number scheduled =
    let jobs = plan.program.jobs in
    let t = λ (k : ℕ). thread_of jobs k == number in
    let c = λ (k : ℕ). is_of_class jobs class.Scheduled k in
    let numbers = job_numbers jobs in
    let are = jobs_kept jobs c numbers (numbers_are jobs 0 jobs (omega arith)) in
    sym (filter_order plan t (filter c numbers) are
    ∙ ap (in_key_order jobs) (filter_both c t numbers
    ∙ filter_same (λ k. c k && t k) t (λ k. drop_class (c k) (t k) (scheduled k)) numbers))

-- The jobs at work are those of the thread's line.
pub work_is : (plan : PlanValue) (number : ℕ) (thread : Thread) (taken : Taken) (w : Job1) → thread.number ≡ number → IsScheduledOn plan number
    → jobs_at_work (plan_of plan) thread taken w ≡ line_work plan.program.jobs (scheduled_of (plan_of plan) number) w
work_is plan number thread taken (work.Frame first last) is scheduled =
    let jobs = plan.program.jobs in
    ap (λ (ks : List ℕ). flat_map (λ u. in_key_order jobs (filter (is_due (plan_of plan) taken.on u) ks)) (tics_between first last))
    (jobs_by_number plan number thread is)
    ∙ flat_same (λ u. in_key_order jobs (filter (is_due (plan_of plan) taken.on u) (jobs_of jobs (numbered number))))
    (due_of jobs (scheduled_of (plan_of plan) number)) (due_in_order plan number taken.on) (tics_between first last)
work_is plan number thread taken work.Round is scheduled =
    ap (in_key_order plan.program.jobs) (jobs_by_number plan number thread is) ∙ all_in_order plan number scheduled

-- ---- which jobs they are

-- each job of the line is one of the thread's
pub in_thread : (plan : PlanValue) (number k : ℕ) → IsTrue (is_among k (scheduled_of (plan_of plan) number))
    → IsTrue (is_among k (jobs_of plan.program.jobs (numbered number)))
in_thread plan number k h =
    let jobs = plan.program.jobs in
    let t = λ (j : ℕ). thread_of jobs j == number in
    let c = λ (j : ℕ). is_of_class jobs class.Scheduled j in
    let numbers = job_numbers jobs in
    let both : IsTrue (t k && is_among k (in_key_order jobs (filter c numbers))) = sym (among_filter t k (in_key_order jobs (filter c numbers))) ∙ h in
    let some : IsTrue (is_among k (in_key_order jobs (filter c numbers))) = second_holds (t k) (is_among k (in_key_order jobs (filter c numbers))) both in
    let there : IsTrue (c k && is_among k numbers) = sym (among_filter c k numbers) ∙ key_order_is_one.same jobs (filter c numbers) k ∙ some in
    among_filter t k numbers ∙ and_from (t k) (is_among k numbers) (first_holds (t k) (is_among k (in_key_order jobs (filter c numbers))) both) (second_holds (c k) (is_among k numbers) there)

pub worker_in_line : (jobs : List Job) (line : List ℕ) (w : Job1) (k : ℕ) → IsTrue (is_among k (line_work jobs line w)) → IsTrue (is_among k line)
worker_in_line jobs line (work.Frame first last) k h = among_work (λ j u. is_due_at (times_at jobs j) u) k line (tics_between first last) h
worker_in_line jobs line work.Round k h = h

among_at : (all : List JobId) (place : ℕ) → place < length all → IsTrue (is_among (id_at all place) (ids all))
among_at [] place less = absurd (omega arith)
among_at (job ∷ all) zero less = or_left (job.0 == job.0) (is_among job.0 (ids all)) (same_as job.0)
  where
    same_as : (n : ℕ) → IsTrue (n == n)
    same_as n = grind (arith, nat_tests)
among_at (job ∷ all) (suc place) less =
    or_right (job.0 == id_at all place) (is_among (id_at all place) (ids all)) (among_at all place (omega arith))

-- the jobs of the line are of class scheduled
pub line_scheduled : (plan : PlanValue) (number : ℕ) (all : List JobId) → ids all ≡ scheduled_of (plan_of plan) number → AreScheduled plan.program.jobs all
line_scheduled plan number all is place less =
    let jobs = plan.program.jobs in
    let t = λ (j : ℕ). thread_of jobs j == number in
    let c = λ (j : ℕ). is_of_class jobs class.Scheduled j in
    let numbers = job_numbers jobs in
    let k = id_at all place in
    let there : IsTrue (is_among k (scheduled_of (plan_of plan) number)) = subst (λ (ks : List ℕ). IsTrue (is_among k ks)) is (among_at all place less) in
    let some : IsTrue (is_among k (in_key_order jobs (filter c numbers))) =
    second_holds (t k) (is_among k (in_key_order jobs (filter c numbers))) (sym (among_filter t k (in_key_order jobs (filter c numbers))) ∙ there) in
    first_holds (c k) (is_among k numbers) (sym (among_filter c k numbers) ∙ key_order_is_one.same jobs (filter c numbers) k ∙ some)

-- ---- jobs of the program

all_jobs : (n : ℕ) (all : List JobId) → Below n (ids all) → AreThere all n
all_jobs n [] below k d less = absurd (omega arith)
all_jobs n (job ∷ all) below zero d less = below.0
all_jobs n (job ∷ all) below (suc k) d less = all_jobs n all below.1 k d (omega arith)

pub members_there : (plan : PlanValue) (number : ℕ) (all : List JobId) → ids all ≡ jobs_of plan.program.jobs (numbered number) → AreThere all (length plan.program.jobs)
members_there plan number all is =
    let jobs = plan.program.jobs in
    all_jobs (length jobs) all (subst (Below (length jobs)) (sym is)
    (filter_below (length jobs) (λ k. thread_of jobs k == number) (job_numbers jobs) (jobs_below jobs)))

-- ---- jobs of class scheduled are there

class_there : (jobs : List Job) (k : ℕ) → is_of_class jobs class.Scheduled k ≡ true → k < length jobs
class_there jobs k is = elim (below_or k (length jobs)) [
  | inl less ↦ less
  | inr all ↦
      let other : (rank class.Restart == 2) ≡ true = subst (λ (j : Job). (rank j.class == 2) ≡ true) (past jobs k no_job all) is in
      let off : (rank class.Restart == 2) ≡ false = refl in cc
]

pub scheduled_there : (plan : PlanValue) (all : List JobId) → AreScheduled plan.program.jobs all → AreThere all (length plan.program.jobs)
scheduled_there plan all scheduled k d less =
    subst (λ (job : JobId). job.0 < length plan.program.jobs) (at_ all k no_id d less) (class_there plan.program.jobs (id_at all k) (scheduled k less))
  where
    at_ : (all : List JobId) (k : ℕ) (c d : JobId) → k < length all → slice_index_or all k c ≡ slice_index_or all k d
    at_ [] k c d less = absurd (omega arith)
    at_ (job ∷ all) zero c d less = refl
    at_ (job ∷ all) (suc k) c d less = at_ all k c d (omega arith)

below_of : (n : ℕ) (all : List JobId) → AreThere all n → Below n (ids all)
below_of n [] there = tt
below_of n (job ∷ all) there = (there 0 job (omega arith), below_of n all (λ k d less. there (suc k) d (omega arith)))

-- so are those of them that are due
pub due_are_there : (plan : PlanValue) (all due : List JobId) (u : ℕ) → AreScheduled plan.program.jobs all
    → ids due ≡ due_of plan.program.jobs (ids all) u → AreThere due (length plan.program.jobs)
due_are_there plan all due u scheduled is =
    let n = length plan.program.jobs in
    all_jobs n due (subst (Below n) (sym is) (filter_below n (λ k. is_due_at (times_at plan.program.jobs k) u) (ids all)
    (below_of n all (scheduled_there plan all scheduled))))

-- ---- how many there are

-- there are at most 512
pub line_few : (plan : PlanValue) (number : ℕ) (all : List JobId) → ids all ≡ scheduled_of (plan_of plan) number → length all ≤ 512
line_few plan number all is =
    let jobs = plan.program.jobs in
    let c = is_of_class jobs class.Scheduled in
    let first : length (scheduled_of (plan_of plan) number) ≤ length (jobs_in jobs class.Scheduled) = filter_few (λ k. thread_of jobs k == number) (jobs_in jobs class.Scheduled) in
    let second : length (jobs_in jobs class.Scheduled) ≡ length (filter c (job_numbers jobs)) = order_length jobs (filter c (job_numbers jobs)) in
    let third : length (filter c (job_numbers jobs)) ≤ length (job_numbers jobs) = filter_few c (job_numbers jobs) in
    let fourth : length (job_numbers jobs) ≡ length jobs = numbers_length 0 jobs in
    let same : length (ids all) ≡ length (scheduled_of (plan_of plan) number) = ap length is in
    let count : length (ids all) ≡ length all = ids_length all in
    let limit : length jobs ≤ 512 = plan.program.job_limit in
    omega arith
