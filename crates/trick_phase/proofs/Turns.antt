-- What takes and commits of jobs by name answer.
use Rattle.std.proofs.Common.{◌≡◌, ◌≢◌, ◌∙◌, inl, inr, ℕ, ◌<◌, ◌≤◌, ◌==◌, ◌&&◌, nat_le, pos, Bool, true, false, IsTrue, List, length, Option, Some, None, refl, sym, ap, subst, arith}
use Rattle.std.proofs.lemmas.Bool.{false≢true, leb-true}
use Rattle.std.proofs.lemmas.Bool.Decides.{nat_tests}
use Rattle.std.proofs.lemmas.List.{get_or-set_same, get_or_past}
use Rattle.std.proofs.lemmas.List.Sums.{AllPass-from_list_all}
use Rattle.std.specs.List.{slice_index_or}
use Rattle.std.specs.Option.{IfSome, MatchOption}
use Rattle.std.specs.Prelude.{IsSome, filter, slice_set}
use Rattle.trick_base.proofs.Numbers.{equal_to_itself}
use Rattle.trick_phase_board.specs.Answers.{Commits as CommitsTo, IfDone, IfNotDone, IsEmptiedOf, IsFilledBy, IsMissing, IsReadyOn, Runs as RunsTo, Takes as TakesTo}
use Rattle.trick_phase_board.specs.Board.{BoardView, IsBoardOf, IsOpenOf, Opened, stepped, tic_at, with_run}
use Rattle.trick_phase_board.specs.declared.answers.Commit.{Commit as CommitAnswer}
use Rattle.trick_phase_board.specs.declared.answers.Commit.TheVariants.{Committed, Gone, NotTaken, Stale}
use Rattle.trick_phase_board.specs.declared.answers.Ran.{Ran}
use Rattle.trick_phase_board.specs.declared.answers.Ran.TheVariants as ran
use Rattle.trick_phase_board.specs.declared.answers.Took.{Took}
use Rattle.trick_phase_board.specs.declared.answers.Took.TheVariants.{NotYet, ThreadDone, Took as WasTaken}
use Rattle.trick_eval.specs.Bench.{BenchView, IsEvaluated, IsFilled, IsFor, the_job}
use Rattle.trick_lang.specs.Effect.{effect, reads}
use Rattle.trick_lang.specs.Valid.{have_right_threads}
use Rattle.trick_lang.specs.declared.job.Job.{Job}
use Rattle.trick_lang.specs.declared.job.JobId.{JobId}
use Rattle.trick_model.proofs.Keys.{key_order_is_one}
use Rattle.trick_model.specs.Laws.{AreInKeyOrder}
use Rattle.trick_model.specs.Order.{is_due as is_due_at_tic}
use Rattle.trick_model.specs.Plan.{is_on_scheduled, job_numbers, no_job, thread_of}
use Rattle.trick_model.specs.PlanOf.{plan_of}
use Rattle.trick_model.specs.declared.flags.Flags.{Flags}
use Rattle.trick_model.specs.declared.plan.Plan.{Plan as PlanValue}
use Rattle.trick_phase.specs.Steps.{AreBenches, CanBeTaken, Commits, Goes, HasCommitted, HasTaken, HoldsRight, IsCommittedFrom, IsHeld, IsTakenInto, Runs, RunsFrom, Takes, TakesFrom, bench_at, has_job}
use Rattle.trick_queue.proofs.Orders.{jobs_kept, numbers_are}
use Rattle.trick_queue.proofs.Trees.{below_or}
use Rattle.trick_phase_schedules.proofs.Due.{due_there}
use Rattle.trick_phase_schedules.proofs.Keys.{one_first}
use Rattle.trick_phase_schedules.proofs.Steps.{inside, waits_open}
use Rattle.trick_phase_schedules.specs.Play.{is_due, stage_at}
use Rattle.trick_phase_schedules.specs.Tics.{IsDueIn, due_jobs, tic_of}
use Rattle.trick_phase_schedules.specs.declared.stage.Stage.TheVariants.{InFlight}
use Rattle.trick_phase_schedules.specs.declared.step.Step.TheVariants.{Commit, Take}

-- ---- threads

-- no job is on a thread above 15
pub thread_small : (jobs : List Job) (k : ℕ) → have_right_threads jobs ≡ true → thread_of jobs k ≤ 15
thread_small jobs k right = elim (below_or k (length jobs)) [
  | inl less ↦ leb-true _ _ (AllPass-from_list_all (λ (job : Job). nat_le job.thread 15) jobs right k no_job less)
  | inr past ↦ subst (λ (job : Job). job.thread ≤ 15) (sym (get_or_past jobs k no_job past)) (omega arith)
]

-- ---- the next job of a thread is one

due_ordered : (plan : PlanValue) (on : Flags) (number : ℕ) → AreInKeyOrder plan.program.jobs (due_jobs (tic_of plan on number))
due_ordered plan on number =
    let jobs = plan.program.jobs in
    let test = λ (k : ℕ). is_due_at_tic (plan_of plan) on number k && is_on_scheduled jobs plan.threads k in
    key_order_is_one.ordered plan (filter test (job_numbers jobs)) (jobs_kept jobs test (job_numbers jobs) (numbers_are jobs 0 jobs (omega arith)))

due_of : (plan : PlanValue) (o : Opened) → IsOpenOf plan o → (k : ℕ) → IsTrue (is_due (stage_at o.progress.stages k)) → IsDueIn (tic_at plan o) k
due_of plan o open_ k due = sym (open_.stages k) ∙ due

one_ready : (plan : PlanValue) (o : Opened) (thread k j : ℕ) → IsOpenOf plan o → IsReadyOn (tic_at plan o) o.progress.stages thread k
    → IsReadyOn (tic_at plan o) o.progress.stages thread j → k ≡ j
one_ready plan o thread k j open_ one other =
    elim (one_first plan.program.jobs (due_jobs (tic_at plan o)) k j (due_ordered plan o.on o.tic)
    (due_of plan o open_ k (ap is_due one.next.holds.1)) (due_of plan o open_ j (ap is_due other.next.holds.1))) [
      | inl e ↦ e
      | inr order ↦ elim order [
        | inl first ↦ absurd (other.next.least k one.next.holds first)
        | inr second ↦ absurd (one.next.least j other.next.holds second)
      ]
    ]

-- ---- a take

same_job : (a b : JobId) → (a.0 == b.0) ≡ true → a ≡ b
same_job a b e = let n : a.0 ≡ b.0 = number a.0 b.0 e in ap (λ (i : ℕ). record { 0 = i }) n
  where
    number : (n m : ℕ) → (n == m) ≡ true → n ≡ m
    number n m e = grind (arith, nat_tests)

apart_job : (a b : JobId) → (a.0 == b.0) ≡ false → a.0 ≡ b.0 → ⊥
apart_job a b e same = differ a.0 b.0 e same
  where
    differ : (n m : ℕ) → (n == m) ≡ false → n ≡ m → ⊥
    differ n m e same = grind (arith, nat_tests)

taken_held : (plan : PlanValue) (old : BoardView) (o : Opened) (job : JobId) (was filled done : BenchView) → IsOpenOf plan o → filled.job ≡ Some job
    → CanBeTaken plan o job → IsFilledBy old.phase (reads plan.program job) o.progress.memory was filled job
    → done ≡ record filled { outcome = Some (effect plan.program (the_job filled.job) filled.inputs) }
    → HasTaken plan old (stepped plan old o (Take job)) o job done
taken_held plan old o job was filled done open_ job_is can fill evaluated =
    let due = ap is_due can.next.holds.1 in
    record {
      could = can;
      taken = refl;
      held = record {
        job_is = ap (λ (b : BenchView). b.job) evaluated ∙ job_is;
        there = due_there (tic_at plan o) job.0 (due_of plan o open_ job.0 due);
        phase = ap (λ (b : BenchView). b.phase) evaluated ∙ ap (λ (b : BenchView). b.phase) fill.bench;
        evaluated = subst (IsEvaluated plan.program) (sym evaluated) refl;
        flies = get_or-set_same o.progress.stages job.0 InFlight _ (inside o.progress.stages job.0 due);
        inputs = λ c within. sym (ap (λ (b : BenchView). slice_index_or b.inputs c (pos 0)) evaluated ∙ fill.inputs c within);
      };
    }

-- A job was taken; whether it is the one that was asked for.
pub took : (plan : PlanValue) (old new : BoardView) (thread : ℕ) (job : JobId) (was filled done : BenchView) → IsSome old.opened → IsBoardOf plan old
    → thread ≡ thread_of plan.program.jobs job.0
    → IfSome old.opened (λ o. TakesTo (tic_at plan o) o.progress.stages thread (the_job filled.job).0 WasTaken)
    → IfSome old.opened (λ o. new ≡ stepped plan old o (Take (the_job filled.job)))
    → IfSome old.opened (λ o. IsFilledBy old.phase (reads plan.program (the_job filled.job)) o.progress.memory was filled (the_job filled.job))
    → done ≡ record filled { outcome = Some (effect plan.program (the_job filled.job) filled.inputs) }
    → Takes plan old new job done (has_job done.job job)
took plan old new thread job was filled done some belongs on_thread answer taken fill evaluated =
    by_open old.opened some belongs.opened answer taken fill
  where
    by_job : (o : Opened) → IsOpenOf plan o → TakesTo (tic_at plan o) o.progress.stages thread (the_job filled.job).0 WasTaken
        → new ≡ stepped plan old o (Take (the_job filled.job))
        → IsFilledBy old.phase (reads plan.program (the_job filled.job)) o.progress.memory was filled (the_job filled.job)
        → (b : Bool) → ((the_job filled.job).0 == job.0) ≡ b → TakesFrom plan old new (Some o) job done b
    by_job o open_ answer taken fill true e =
        let is : the_job filled.job ≡ job = same_job (the_job filled.job) job e in
        let can : CanBeTaken plan o job =
        subst (λ (i : JobId). IsReadyOn (tic_at plan o) o.progress.stages (thread_of plan.program.jobs job.0) i.0) is
        (subst (λ (n : ℕ). IsReadyOn (tic_at plan o) o.progress.stages n (the_job filled.job).0) on_thread answer) in
        subst (λ (v : BoardView). HasTaken plan old v o job done) (sym (taken ∙ ap (λ (i : JobId). stepped plan old o (Take i)) is))
        (taken_held plan old o job was filled done open_ (ap (λ (b : BenchView). b.job) fill.bench ∙ ap (λ (i : JobId). Some i) is) can
        (subst (λ (i : JobId). IsFilledBy old.phase (reads plan.program i) o.progress.memory was filled i) is fill) evaluated)
    by_job o open_ answer taken fill false e = λ can.
        apart_job (the_job filled.job) job e (one_ready plan o (thread_of plan.program.jobs job.0) (the_job filled.job).0 job.0 open_
        (subst (λ (n : ℕ). IsReadyOn (tic_at plan o) o.progress.stages n (the_job filled.job).0) on_thread answer) can)

    by_open : (opened : Option Opened) → IsSome opened → IfSome opened (IsOpenOf plan)
        → IfSome opened (λ o. TakesTo (tic_at plan o) o.progress.stages thread (the_job filled.job).0 WasTaken)
        → IfSome opened (λ o. new ≡ stepped plan old o (Take (the_job filled.job)))
        → IfSome opened (λ o. IsFilledBy old.phase (reads plan.program (the_job filled.job)) o.progress.memory was filled (the_job filled.job))
        → TakesFrom plan old new opened job done (has_job done.job job)
    by_open None some open_ answer taken fill = absurd (false≢true some)
    by_open (Some o) some open_ answer taken fill =
        let has : has_job done.job job ≡ ((the_job filled.job).0 == job.0) =
        ap (λ (b : BenchView). has_job b.job job) evaluated ∙ ap (λ (b : BenchView). has_job b.job job) fill.bench in
        subst (TakesFrom plan old new (Some o) job done) (sym has) (by_job o open_ answer taken fill ((the_job filled.job).0 == job.0) refl)

-- a bench that a take filled has a job of the program
pub took_filled : (plan : PlanValue) (old : BoardView) (thread : ℕ) (was filled : BenchView) → IsSome old.opened → IsBoardOf plan old
    → IfSome old.opened (λ o. TakesTo (tic_at plan o) o.progress.stages thread (the_job filled.job).0 WasTaken)
    → IfSome old.opened (λ o. IsFilledBy old.phase (reads plan.program (the_job filled.job)) o.progress.memory was filled (the_job filled.job))
    → IsFilled plan.program filled
took_filled plan old thread was filled some belongs answer fill = by_open old.opened some belongs.opened answer fill
  where
    by_open : (opened : Option Opened) → IsSome opened → IfSome opened (IsOpenOf plan)
        → IfSome opened (λ o. TakesTo (tic_at plan o) o.progress.stages thread (the_job filled.job).0 WasTaken)
        → IfSome opened (λ o. IsFilledBy old.phase (reads plan.program (the_job filled.job)) o.progress.memory was filled (the_job filled.job))
        → IsFilled plan.program filled
    by_open None some open_ answer fill = absurd (false≢true some)
    by_open (Some o) some open_ answer fill = (
      ap (λ (b : BenchView). b.job) fill.bench,
      due_there (tic_at plan o) (the_job filled.job).0 (due_of plan o open_ (the_job filled.job).0 (ap is_due answer.next.holds.1)),
    )

-- no job was taken: the job that was asked for is not the next, or not ready
pub not_yet : (plan : PlanValue) (old new : BoardView) (thread k : ℕ) (job next waits : JobId) (bench : BenchView) → IsSome old.opened → IsBoardOf plan old
    → thread ≡ thread_of plan.program.jobs job.0
    → IfSome old.opened (λ o. TakesTo (tic_at plan o) o.progress.stages thread k (NotYet next waits)) → Takes plan old new job bench false
not_yet plan old new thread k job next waits bench some belongs on_thread answer = by_open old.opened some belongs.opened answer
  where
    by_answer : (o : Opened) → IsOpenOf plan o → TakesTo (tic_at plan o) o.progress.stages (thread_of plan.program.jobs job.0) k (NotYet next waits) → CanBeTaken plan o job → ⊥
    by_answer o open_ (inl waiting) can =
        let same : next.0 ≡ job.0 = elim (one_first plan.program.jobs (due_jobs (tic_at plan o)) next.0 job.0 (due_ordered plan o.on o.tic)
        (due_of plan o open_ next.0 (ap is_due waiting.next.holds.1)) (due_of plan o open_ job.0 (ap is_due can.next.holds.1))) [
          | inl e ↦ e
          | inr order ↦ elim order [
            | inl first ↦ absurd (can.next.least next.0 waiting.next.holds first)
            | inr second ↦ absurd (waiting.next.least job.0 can.next.holds second)
          ]
        ] in
        can.ready waits.0 (subst (λ (n : ℕ). IsMissing (tic_at plan o) o.progress.stages n waits.0) same waiting.for_.holds)
    by_answer o open_ (inr flying) can = flying.none job.0 can.next.holds

    by_open : (opened : Option Opened) → IsSome opened → IfSome opened (IsOpenOf plan)
        → IfSome opened (λ o. TakesTo (tic_at plan o) o.progress.stages thread k (NotYet next waits)) → IfSome opened (λ o. CanBeTaken plan o job → ⊥)
    by_open None some open_ answer = absurd (false≢true some)
    by_open (Some o) some open_ answer =
        by_answer o open_ (subst (λ (n : ℕ). TakesTo (tic_at plan o) o.progress.stages n k (NotYet next waits)) on_thread answer)

pub all_done : (plan : PlanValue) (old new : BoardView) (thread k : ℕ) (job : JobId) (bench : BenchView) → IsSome old.opened → IsBoardOf plan old
    → thread ≡ thread_of plan.program.jobs job.0
    → IfSome old.opened (λ o. TakesTo (tic_at plan o) o.progress.stages thread k ThreadDone) → Takes plan old new job bench false
all_done plan old new thread k job bench some belongs on_thread answer = by_open old.opened some belongs.opened answer
  where
    by_open : (opened : Option Opened) → IsSome opened → IfSome opened (IsOpenOf plan)
        → IfSome opened (λ o. TakesTo (tic_at plan o) o.progress.stages thread k ThreadDone) → IfSome opened (λ o. CanBeTaken plan o job → ⊥)
    by_open None some open_ answer = absurd (false≢true some)
    by_open (Some o) some open_ answer = λ can.
        waits_open (stage_at o.progress.stages job.0) can.next.holds.1
        (answer job.0 (due_of plan o open_ job.0 (ap is_due can.next.holds.1)) (sym on_thread))

-- whatever else a take answers
pub not_taken : (plan : PlanValue) (old new : BoardView) (thread k : ℕ) (job : JobId) (bench : BenchView) (answer : Took) → (answer ≡ WasTaken → ⊥)
    → IsSome old.opened → IsBoardOf plan old → thread ≡ thread_of plan.program.jobs job.0
    → IfSome old.opened (λ o. TakesTo (tic_at plan o) o.progress.stages thread k answer) → Takes plan old new job bench false
not_taken plan old new thread k job bench WasTaken other some belongs on_thread answer = absurd (other refl)
not_taken plan old new thread k job bench (NotYet next waits) other some belongs on_thread answer = not_yet plan old new thread k job next waits bench some belongs on_thread answer
not_taken plan old new thread k job bench ThreadDone other some belongs on_thread answer = all_done plan old new thread k job bench some belongs on_thread answer

-- ---- a commit

has_is : (held : Option JobId) (job : JobId) → has_job held job ≡ true → held ≡ Some job
has_is None job e = cc
has_is (Some held) job e = ap (λ (i : JobId). Some i) (same_job held job e)

pub has_not : (held : Option JobId) (job : JobId) → has_job held job ≡ false → held ≢ Some job
has_not held job e is = let has : has_job held job ≡ true = ap (λ (h : Option JobId). has_job h job) is ∙ equal_to_itself job.0 in let off : true ≡ false = sym has ∙ e in cc

-- the bench of a job that is in flight
pub record IsFlown (plan : PlanValue) (b : BoardView) (job : JobId) (bench : BenchView) : Type 0 where
  pub opened : Opened
  pub is : b.opened ≡ Some opened
  pub held : IsHeld plan b opened job bench

pub flown : (plan : PlanValue) (b : BoardView) (job : JobId) (bench : BenchView) → HoldsRight plan b bench → has_job bench.job job ≡ true → IsFlown plan b job bench
flown plan b job bench holds has = by_open b.opened refl holds
  where
    by_open : (opened : Option Opened) → b.opened ≡ opened → MatchOption opened ⊥ (λ o. IfSome bench.job (λ i. IsHeld plan b o i bench)) → IsFlown plan b job bench
    by_open None is held = absurd held
    by_open (Some o) is held = record {
      opened = o;
      is = is;
      held = subst (λ (h : Option JobId). IfSome h (λ i. IsHeld plan b o i bench)) (has_is bench.job job has) held;
    }

pub flown_filled : (plan : PlanValue) (b : BoardView) (job : JobId) (bench : BenchView) → IsFlown plan b job bench → IsFilled plan.program bench
flown_filled plan b job bench f =
    let is : the_job bench.job ≡ job = ap the_job f.held.job_is in
    (f.held.job_is ∙ ap (λ (i : JobId). Some i) (sym is), subst (λ (i : JobId). i.0 < length plan.program.jobs) (sym is) f.held.there)

-- what is given has no other answer than a commit
pub must_commit : (plan : PlanValue) (b : BoardView) (job : JobId) (bench : BenchView) (answer : CommitAnswer) → IsFlown plan b job bench
    → IfSome b.opened (λ o. CommitsTo b.phase o.progress.stages o.progress.memory (reads plan.program (the_job bench.job)) bench (the_job bench.job) answer)
    → answer ≡ Committed
must_commit plan b job bench answer f given =
    let is : the_job bench.job ≡ job = ap the_job f.held.job_is in
    by_answer answer
    (subst (λ (i : JobId). CommitsTo b.phase f.opened.progress.stages f.opened.progress.memory (reads plan.program i) bench i answer) is
    (subst (λ (o : Option Opened). IfSome o (λ o. CommitsTo b.phase o.progress.stages o.progress.memory (reads plan.program (the_job bench.job)) bench (the_job bench.job) answer)) f.is given))
  where
    by_answer : (answer : CommitAnswer) → CommitsTo b.phase f.opened.progress.stages f.opened.progress.memory (reads plan.program job) bench job answer → answer ≡ Committed
    by_answer Committed h = refl
    by_answer (Stale cell kept given) h =
        let d = h.2 in absurd (d.apart (d.left ∙ f.held.inputs cell.0 d.there ∙ sym d.right))
    by_answer (Gone now given) h = absurd (h.2 (h.1 ∙ f.held.phase ∙ sym h.0))
    by_answer (NotTaken other) h = absurd (h.2 f.held.flies)

pub commits : (plan : PlanValue) (b new : BoardView) (job : JobId) (bench after : BenchView) → IsFlown plan b job bench
    → IfSome b.opened (λ o. new ≡ stepped plan b o (Commit (the_job bench.job)))
    → after ≡ record bench { phase = 0; job = None; outcome = None }
    → Commits plan b new job bench after true
commits plan b new job bench after f committed emptied =
    let is : the_job bench.job ≡ job = ap the_job f.held.job_is in
    subst (λ (o : Option Opened). IfSome o (λ o. HasCommitted plan b new o job bench after)) (sym f.is) (record {
      held = f.held.job_is;
      committed = subst (λ (o : Option Opened). IfSome o (λ o. new ≡ stepped plan b o (Commit (the_job bench.job)))) f.is committed
          ∙ ap (λ (i : JobId). stepped plan b f.opened (Commit i)) is;
      emptied = ap (λ (v : BenchView). v.job) emptied;
    })

-- ---- a take and a commit at once

-- A job was run; whether it is the one that was asked for.
pub has_run : (plan : PlanValue) (old new : BoardView) (thread : ℕ) (job done : JobId) → IsSome old.opened → IsBoardOf plan old
    → thread ≡ thread_of plan.program.jobs job.0
    → IfSome old.opened (λ o. RunsTo (tic_at plan o) o.progress.stages thread (ran.Done done))
    → IfSome old.opened (λ o. new ≡ with_run plan old o done) → Runs plan old new job (done.0 == job.0)
has_run plan old new thread job done some belongs on_thread answer run = by_open old.opened some belongs.opened answer run
  where
    by_job : (o : Opened) → IsOpenOf plan o → IsReadyOn (tic_at plan o) o.progress.stages thread done.0 → new ≡ with_run plan old o done
        → (b : Bool) → (done.0 == job.0) ≡ b → RunsFrom plan old new (Some o) job b
    by_job o open_ ready run true e =
        let is : done ≡ job = same_job done job e in
        record {
          could = subst (λ (i : JobId). IsReadyOn (tic_at plan o) o.progress.stages (thread_of plan.program.jobs job.0) i.0) is
              (subst (λ (n : ℕ). IsReadyOn (tic_at plan o) o.progress.stages n done.0) on_thread ready);
          run = run ∙ ap (λ (i : JobId). with_run plan old o i) is;
        }
    by_job o open_ ready run false e = λ can.
        apart_job done job e (one_ready plan o (thread_of plan.program.jobs job.0) done.0 job.0 open_
        (subst (λ (n : ℕ). IsReadyOn (tic_at plan o) o.progress.stages n done.0) on_thread ready) can)

    by_open : (opened : Option Opened) → IsSome opened → IfSome opened (IsOpenOf plan)
        → IfSome opened (λ o. RunsTo (tic_at plan o) o.progress.stages thread (ran.Done done))
        → IfSome opened (λ o. new ≡ with_run plan old o done) → RunsFrom plan old new opened job (done.0 == job.0)
    by_open None some open_ answer run = absurd (false≢true some)
    by_open (Some o) some open_ answer run = by_job o open_ answer run (done.0 == job.0) refl

-- no job was run: the one that was asked for can't be taken
pub not_run : (plan : PlanValue) (old new : BoardView) (thread : ℕ) (job : JobId) (bench : BenchView) (answer : Ran)
    → ((done : JobId) → answer ≡ ran.Done done → ⊥) → IsSome old.opened → IsBoardOf plan old → thread ≡ thread_of plan.program.jobs job.0
    → IfSome old.opened (λ o. RunsTo (tic_at plan o) o.progress.stages thread answer) → Runs plan old new job false
not_run plan old new thread job bench (ran.Done done) other some belongs on_thread answer = absurd (other done refl)
not_run plan old new thread job bench (ran.NotYet next waits) other some belongs on_thread answer =
    not_yet plan old new thread 0 job next waits bench some belongs on_thread answer
not_run plan old new thread job bench ran.ThreadDone other some belongs on_thread answer =
    all_done plan old new thread 0 job bench some belongs on_thread answer

-- the buffers of the bench stay
pub run_parts : (old new : BoardView) (was bench : BenchView) (answer : Ran) → IfDone answer (λ _. IsEmptiedOf was bench)
    → IfNotDone answer ((new ≡ old) × (bench ≡ was)) → bench.parts ≡ was.parts
run_parts old new was bench (ran.Done done) emptied kept = ap (λ (b : BenchView). b.parts) emptied
run_parts old new was bench (ran.NotYet next waits) emptied kept = ap (λ (b : BenchView). b.parts) kept.1
run_parts old new was bench ran.ThreadDone emptied kept = ap (λ (b : BenchView). b.parts) kept.1

-- ---- a job that is not there

-- only a job of the plan can be taken
taken_there : (plan : PlanValue) (o : Opened) (job : JobId) → IsOpenOf plan o → CanBeTaken plan o job → job.0 < length plan.program.jobs
taken_there plan o job open_ can = due_there (tic_at plan o) job.0 (due_of plan o open_ job.0 (ap is_due can.next.holds.1))

none_taken : (plan : PlanValue) (old : BoardView) (job : JobId) → IsBoardOf plan old → length plan.program.jobs ≤ job.0
    → IfSome old.opened (λ o. CanBeTaken plan o job → ⊥)
none_taken plan old job belongs past = by_open old.opened belongs.opened
  where
    by_open : (opened : Option Opened) → IfSome opened (IsOpenOf plan) → IfSome opened (λ o. CanBeTaken plan o job → ⊥)
    by_open None open_ = tt
    by_open (Some o) open_ = λ can. let there = taken_there plan o job open_ can in omega (arith, there, past)

-- and no bench has it
none_held : (plan : PlanValue) (b : BoardView) (benches : List BenchView) (job : JobId) → AreBenches plan b benches
    → length plan.program.jobs ≤ job.0 → (bench_at benches (thread_of plan.program.jobs job.0)).job ≢ Some job
none_held plan b benches job are past =
    let thread = thread_of plan.program.jobs job.0 in
    let low : thread ≤ 15 = thread_small plan.program.jobs job.0 plan.program.right_threads in
    λ held. by_open (bench_at benches thread) held b.opened (are.holds thread (omega (arith, low)))
  where
    by_open : (bench : BenchView) → bench.job ≡ Some job → (opened : Option Opened)
        → MatchOption opened ⊥ (λ o. IfSome bench.job (λ i. IsHeld plan b o i bench)) → ⊥
    by_open bench held None right = right
    by_open bench held (Some o) right =
        let kept : IsHeld plan b o job bench = subst (λ (j : Option JobId). IfSome j (λ i. IsHeld plan b o i bench)) held right in
        let there = kept.there in
        omega (arith, there, past)

-- so no step of it is done
pub take_past : (plan : PlanValue) (b : BoardView) (job : JobId) (benches : List BenchView) → IsBoardOf plan b
    → length plan.program.jobs ≤ job.0 → Goes plan b b benches benches (Take job) false
take_past plan b job benches belongs past = none_taken plan b job belongs past

pub commit_past : (plan : PlanValue) (b : BoardView) (job : JobId) (benches : List BenchView) → AreBenches plan b benches
    → length plan.program.jobs ≤ job.0 → Goes plan b b benches benches (Commit job) false
commit_past plan b job benches are past = none_held plan b benches job are past

-- ---- a step, with a bench for each thread

go_some_take : (plan : PlanValue) (old new : BoardView) (opened : Option Opened) (job : JobId) (bench : BenchView) (were are : List BenchView)
    → are ≡ slice_set were (thread_of plan.program.jobs job.0) bench → IsFor plan.program bench.parts
    → IfSome opened (λ o. HasTaken plan old new o job bench) → IfSome opened (λ o. IsTakenInto plan old new o job were are)
go_some_take plan old new None job bench were are set own taken = tt
go_some_take plan old new (Some o) job bench were are set own taken = record { bench = bench; set = set; own = own; taken = taken }

pub go_take : (plan : PlanValue) (old new : BoardView) (job : JobId) (thread : ℕ) (bench : BenchView) (were are : List BenchView) (answer : Bool)
    → thread ≡ thread_of plan.program.jobs job.0 → are ≡ slice_set were thread bench → IsFor plan.program bench.parts
    → Takes plan old new job bench answer → Goes plan old new were are (Take job) answer
go_take plan old new job thread bench were are true is set own taken =
    go_some_take plan old new old.opened job bench were are (set ∙ ap (λ (n : ℕ). slice_set were n bench) is) own taken
go_take plan old new job thread bench were are false is set own taken = taken

go_some_commit : (plan : PlanValue) (old new : BoardView) (opened : Option Opened) (job : JobId) (was bench : BenchView) (were are : List BenchView)
    → was ≡ bench_at were (thread_of plan.program.jobs job.0) → are ≡ slice_set were (thread_of plan.program.jobs job.0) bench → IsFor plan.program bench.parts
    → IfSome opened (λ o. HasCommitted plan old new o job was bench) → IfSome opened (λ o. IsCommittedFrom plan old new o job were are)
go_some_commit plan old new None job was bench were are at_ set own committed = tt
go_some_commit plan old new (Some o) job was bench were are at_ set own committed = record {
  bench = bench;
  set = set;
  own = own;
  committed = subst (λ (b : BenchView). HasCommitted plan old new o job b bench) at_ committed;
}

pub go_commit : (plan : PlanValue) (old new : BoardView) (job : JobId) (thread : ℕ) (was bench : BenchView) (were are : List BenchView) (answer : Bool)
    → thread ≡ thread_of plan.program.jobs job.0 → was ≡ bench_at were thread → are ≡ slice_set were thread bench → IsFor plan.program bench.parts
    → Commits plan old new job was bench answer → Goes plan old new were are (Commit job) answer
go_commit plan old new job thread was bench were are true is at_ set own committed =
    go_some_commit plan old new old.opened job was bench were are (at_ ∙ ap (bench_at were) is) (set ∙ ap (λ (n : ℕ). slice_set were n bench) is) own committed
go_commit plan old new job thread was bench were are false is at_ set own committed = λ held. committed (ap (λ (b : BenchView). b.job) (at_ ∙ ap (bench_at were) is) ∙ held)
