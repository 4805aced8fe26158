-- What the calls of a board do, by its fields: the tic is open where there is a memory.
use Rattle.std.proofs.Common.{◌≡◌, ℕ, ◌<◌, ◌≤◌, Bool, true, false, List, length, Option, Some, None, refl, sym, ◌∙◌, ap, subst}
use Rattle.std.proofs.lemmas.Bool.{false≢true}
use Rattle.std.specs.Option.{IfSome, option_map}
use Rattle.std.specs.Prelude.{ℤ, IsSome, Result, Ok, Err, replicate}
use Rattle.trick_phase_board.proofs.Ends.{ends_serial, not_stale}
use Rattle.trick_phase_board.proofs.Counting.{occurrences}
use Rattle.trick_phase_board.proofs.Firsts.{due_order}
use Rattle.trick_phase_board.proofs.Nexts.{first_on, next_right, none_before}
use Rattle.trick_phase_board.proofs.Ranks.{once}
use Rattle.trick_phase_board.proofs.Stages.{due_kept, first_due}
use Rattle.trick_phase_board.specs.Answers.{CanDo, ComesTo, Commits, Counts, IfMemory, IsLeftBy, IsStale, open_count}
use Rattle.trick_phase_board.specs.Board.{BoardView, IsBoardOf, IsOpenOf, Opened, opened_of, stepped, tic_at}
use Rattle.trick_phase_board.specs.Counts.{AreRanked, own_anew, own_at}
use Rattle.trick_phase_board.specs.Search.{AreFirst, next_in}
use Rattle.trick_phase_board.specs.Tables.{IsFor}
use Rattle.trick_phase_board.specs.declared.answers.Closed.{Closed}
use Rattle.trick_phase_board.specs.declared.answers.Closed.TheVariants.{Left, Memory}
use Rattle.trick_phase_board.specs.declared.answers.Commit.{Commit}
use Rattle.trick_phase_board.specs.declared.search.Next.{Next}
use Rattle.trick_phase_board.specs.declared.search.Next.TheVariants.{Ready}
use Rattle.trick_phase_board.specs.declared.tables.Tables.{Tables}
use Rattle.trick_eval.specs.Bench.{BenchView, the_job}
use Rattle.trick_phase_jobs.specs.Belongs.{IsMemoryOf}
use Rattle.trick_lang.specs.Effect.{reads}
use Rattle.trick_lang.specs.Laws.{AgreeOn, OverwritesRight}
use Rattle.trick_lang.specs.declared.fault.JobFault.{JobFault}
use Rattle.trick_lang.specs.declared.fault.StatementFault.{StatementFault}
use Rattle.trick_lang.specs.declared.job.JobId.{JobId}
use Rattle.trick_lang.specs.declared.scalar.Scalar.{Scalar}
use Rattle.trick_model.specs.Acceptance.{IsAccepted}
use Rattle.trick_model.specs.FaultList.{FaultList, with_faults}
use Rattle.trick_model.specs.Laws.{AreInKeyOrder, KeyOrderIsOne}
use Rattle.trick_model.specs.Order.{jobs_at}
use Rattle.trick_model.specs.Plan.{Plan, is_on}
use Rattle.trick_model.specs.PlanOf.{plan_of}
use Rattle.trick_model.specs.Running.{apply, outcome, serial}
use Rattle.trick_model.specs.Valid.{ids}
use Rattle.trick_model.specs.declared.plan.Plan.{Plan as PlanValue}
use Rattle.trick_phase_schedules.proofs.Due.{due_there}
use Rattle.trick_phase_schedules.specs.Laws.{AtEachTic, EveryBeginning, EveryBoard}
use Rattle.trick_phase_schedules.specs.Play.{copy_of, faults_in, is_due, opening, played, stage_at, with_waiting}
use Rattle.trick_phase_schedules.specs.Tics.{due_jobs, tic_of}
use Rattle.trick_phase_schedules.specs.declared.stage.Stage.{Stage}
use Rattle.trick_phase_schedules.specs.declared.stage.Stage.TheVariants.{Idle, InFlight}
use Rattle.trick_phase_schedules.specs.declared.step.Step.{Step}
use Rattle.trick_phase_schedules.specs.declared.step.Step.TheVariants.{Commit as CommitOf}

-- what can be done is what the search finds
pub next_at : {M : Type 0} (numbers : M → List ℤ) (scalars : M → List Scalar) (tic : ℕ) (on : List Bool) (due : List JobId) (stages : List Stage)
    (memory : Option M) (plan : PlanValue) (tables : Tables) (thread : ℕ) (r : Next)
    → KeyOrderIsOne → IsFor (plan_of plan) tables → r ≡ next_in (plan_of plan) tables stages thread
    → IfSome (option_map (opened_of numbers scalars tic on due stages) memory) (IsOpenOf plan)
    → IfSome (option_map (opened_of numbers scalars tic on due stages) memory) (λ o. CanDo (tic_at plan o) o.progress.stages thread r)
next_at numbers scalars tic on due stages None plan tables thread r law for_ is open_ = tt
next_at numbers scalars tic on due stages (Some m) plan tables thread r law for_ is open_ =
    subst (λ (n : Next). CanDo (tic_at plan (opened_of numbers scalars tic on due stages m)) stages thread n) (sym is)
    (next_right plan (record { on = on }) tic tables stages (record { keys = law; tables_are = for_; due = open_.stages }) thread)

-- where nothing is left before a waiting job, it is the first open one of its thread
pub first_at : {M : Type 0} (numbers : M → List ℤ) (scalars : M → List Scalar) (tic : ℕ) (on : List Bool) (due : List JobId) (stages : List Stage)
    (memory : Option M) (plan : PlanValue) (tables : Tables) (ranks left : List ℕ) (thread : ℕ) → KeyOrderIsOne → IsFor (plan_of plan) tables
    → IsSome (option_map (opened_of numbers scalars tic on due stages) memory)
    → IfSome (option_map (opened_of numbers scalars tic on due stages) memory) (IsOpenOf plan)
    → AreRanked tables due stages ranks left → AreFirst tables stages (own_at tables ranks left) thread
first_at numbers scalars tic on due stages None plan tables ranks left thread law for_ some open_ are = absurd (false≢true some)
first_at numbers scalars tic on due stages (Some m) plan tables ranks left thread law for_ some open_ are =
    first_on plan (record { on = on }) tic tables stages (record { keys = law; tables_are = for_; due = open_.stages }) due open_.due
    (subst (AreInKeyOrder plan.program.jobs) (sym open_.due) (due_order law plan (record { on = on }) tic)) (own_at tables ranks left) are thread

-- nothing is left before a job that is ready
pub ready_first : KeyOrderIsOne → (plan : PlanValue) (tables : Tables) (opened : Option Opened) (thread : ℕ) (job : JobId) → IsFor (plan_of plan) tables
    → IfSome opened (IsOpenOf plan) → IfSome opened (λ o. CanDo (tic_at plan o) o.progress.stages thread (Ready job))
    → IfSome opened (λ o. own_anew tables o.due o.progress.stages job.0 ≡ 0)
ready_first law plan tables None thread job for_ open_ can = tt
ready_first law plan tables (Some o) thread job for_ open_ can =
    none_before plan o.on o.tic tables o.progress.stages (record { keys = law; tables_are = for_; due = open_.stages }) o.due open_.due
    (subst (AreInKeyOrder plan.program.jobs) (sym open_.due) (due_order law plan o.on o.tic)) job.0
    (sym (open_.stages job.0) ∙ ap is_due can.next.holds.1) can.ready

-- what an open board says of what is left before a job is so of its fields
pub own_open : {M : Type 0} (numbers : M → List ℤ) (scalars : M → List Scalar) (tic : ℕ) (on : List Bool) (due : List JobId) (stages : List Stage)
    (memory : Option M) (tables : Tables) (k : ℕ) → IsSome (option_map (opened_of numbers scalars tic on due stages) memory)
    → IfSome (option_map (opened_of numbers scalars tic on due stages) memory) (λ o. own_anew tables o.due o.progress.stages k ≡ 0)
    → own_anew tables due stages k ≡ 0
own_open numbers scalars tic on due stages None tables k some is = absurd (false≢true some)
own_open numbers scalars tic on due stages (Some m) tables k some is = is

-- a due job of an open board is in its list at most once
pub once_open : {M : Type 0} (numbers : M → List ℤ) (scalars : M → List Scalar) (tic : ℕ) (on : List Bool) (due : List JobId) (stages : List Stage)
    (memory : Option M) (plan : PlanValue) (k : ℕ) → KeyOrderIsOne → IsSome (option_map (opened_of numbers scalars tic on due stages) memory)
    → IfSome (option_map (opened_of numbers scalars tic on due stages) memory) (IsOpenOf plan) → occurrences k (ids due) ≤ 1
once_open numbers scalars tic on due stages None plan k law some open_ = absurd (false≢true some)
once_open numbers scalars tic on due stages (Some m) plan k law some open_ =
    once plan.program.jobs (ids due) (subst (AreInKeyOrder plan.program.jobs) (sym open_.due) (due_order law plan (record { on = on }) tic)) k

-- the tables know the thread of a job that is in flight
pub flying_known : {M : Type 0} (numbers : M → List ℤ) (scalars : M → List Scalar) (tic : ℕ) (on : List Bool) (due : List JobId) (stages : List Stage)
    (memory : Option M) (plan : PlanValue) (tables : Tables) (k : ℕ) → IsFor (plan_of plan) tables
    → IsSome (option_map (opened_of numbers scalars tic on due stages) memory)
    → IfSome (option_map (opened_of numbers scalars tic on due stages) memory) (IsOpenOf plan) → stage_at stages k ≡ InFlight → k < length tables.threads
flying_known numbers scalars tic on due stages None plan tables k for_ some open_ flies = absurd (false≢true some)
flying_known numbers scalars tic on due stages (Some m) plan tables k for_ some open_ flies =
    subst (λ (n : ℕ). k < n) (sym for_.many)
    (due_there (tic_at plan (opened_of numbers scalars tic on due stages m)) k (sym (open_.stages k) ∙ ap is_due flies))

-- a job that is ready is there
pub ready_there : (opened : Option Opened) (plan : PlanValue) (thread : ℕ) (job : JobId) → IsSome opened → IfSome opened (IsOpenOf plan)
    → IfSome opened (λ o. CanDo (tic_at plan o) o.progress.stages thread (Ready job)) → job.0 < length plan.program.jobs
ready_there None plan thread job some open_ can = absurd (false≢true some)
ready_there (Some o) plan thread job some open_ can =
    due_there (tic_at plan o) job.0 (sym (open_.stages job.0) ∙ ap is_due can.next.holds.1)

-- an open leaves an open tic of the plan
pub opened_belongs : {M : Type 0} (numbers : M → List ℤ) (scalars : M → List Scalar) (tic : ℕ) (on : List Bool) (due : List JobId) (stages : List Stage)
    (memory : Option M) (m : M) (plan : PlanValue) (n : ℕ) → memory ≡ Some m → ids due ≡ jobs_at (plan_of plan) (record { on = on }) tic
    → n ≡ length plan.program.jobs → stages ≡ with_waiting (ids due) (replicate n Idle) → IsMemoryOf plan.program (numbers m) (scalars m)
    → IfSome (option_map (opened_of numbers scalars tic on due stages) memory) (IsOpenOf plan)
opened_belongs {M} numbers scalars tic on due stages memory m plan n is right many begins belongs =
    subst (λ (o : Option M). IfSome (option_map (opened_of numbers scalars tic on due stages) o) (IsOpenOf plan)) (sym is) (record {
      due = right;
      stages = λ k. ap (λ (l : List Stage). is_due (stage_at l k))
          (begins ∙ ap (λ (l : List ℕ). with_waiting l (replicate n Idle)) right
          ∙ ap (λ (i : ℕ). with_waiting (jobs_at (plan_of plan) (record { on = on }) tic) (replicate i Idle)) many)
          ∙ first_due (tic_of plan (record { on = on }) tic) k;
      memory = belongs;
    })

apply_length : OverwritesRight → (p : Plan) (b : Bool) (tic k : ℕ) (m : List ℤ) → length (apply p b tic k m).memory ≡ length m
apply_length law p false tic k m = refl
apply_length law p true tic k m = by_effect (p.effect k m)
  where
    by_effect : (e : Result (List (Option ℤ)) StatementFault) → length (outcome tic k m e).memory ≡ length m
    by_effect (Ok stored) = law.as_many stored m
    by_effect (Err stop) = refl

commit_open : OverwritesRight → (plan : PlanValue) (b : BoardView) (job : JobId) (o : Opened) → IsFor (plan_of plan) b.tables → b.jobs ≡ length plan.program.jobs
    → IsOpenOf plan o → stage_at o.progress.stages job.0 ≡ InFlight → IsBoardOf plan (stepped plan b o (CommitOf job))
commit_open law plan b job o tables many open_ flies = record {
  tables = tables;
  many = many;
  opened = record {
    due = open_.due;
    stages = λ k. due_kept o.progress.stages job.0 _ (sym (ap is_due flies)) k ∙ open_.stages k;
    memory = record {
      as_many = apply_length law (plan_of plan) (is_on o.on job.0) o.tic job.0 o.progress.memory ∙ open_.memory.as_many;
      of_types = open_.memory.of_types;
    };
  };
}

-- a commit leaves a board of the plan
pub commit_belongs : OverwritesRight → (plan : PlanValue) (b new : BoardView) (job : JobId) → IsSome b.opened → IsBoardOf plan b
    → IfSome b.opened (λ o. stage_at o.progress.stages job.0 ≡ InFlight) → IfSome b.opened (λ o. new ≡ stepped plan b o (CommitOf job))
    → IsBoardOf plan new
commit_belongs law plan b new job some belongs flies stored = by_open b.opened some belongs.opened flies stored
  where
    by_open : (opened : Option Opened) → IsSome opened → IfSome opened (IsOpenOf plan)
        → IfSome opened (λ o. stage_at o.progress.stages job.0 ≡ InFlight) → IfSome opened (λ o. new ≡ stepped plan b o (CommitOf job))
        → IsBoardOf plan new
    by_open None some open_ flies stored = absurd (false≢true some)
    by_open (Some o) some open_ flies stored =
        subst (λ (v : BoardView). IsBoardOf plan v) (sym stored) (commit_open law plan b job o belongs.tables belongs.many open_ flies)

-- ---- what the laws say

pub never_stale : (plan : PlanValue) (opened : Option Opened) (phase : ℕ) (bench : BenchView) (r : Commit)
    → AtEachTic EveryBeginning → AtEachTic EveryBoard → ∥ IsAccepted (plan_of plan) ∥₁
    → IfSome opened (λ o. Commits phase o.progress.stages o.progress.memory (reads plan.program (the_job bench.job)) bench (the_job bench.job) r)
    → (first : List ℤ) (steps : List Step) → IfSome opened (λ o. IsLeftBy (tic_at plan o) first steps o.progress
    → AgreeOn (reads plan.program (the_job bench.job)) bench.inputs (copy_of (played (tic_at plan o) (opening (tic_at plan o) first) steps) (the_job bench.job).0)
    → IsStale r → ⊥)
never_stale plan None phase bench r begins board accepted answer first steps = tt
never_stale plan (Some o) phase bench r begins board accepted answer first steps = λ left agrees stale.
    not_stale (tic_at plan o) first steps o.progress phase bench (the_job bench.job) r (begins plan o.on o.tic accepted) (board plan o.on o.tic accepted)
    left answer agrees stale

pub closes_serial : {M : Type 0} (numbers : M → List ℤ) (plan : PlanValue) (b : BoardView) (r : Closed M) (old new : FaultList)
    → AtEachTic EveryBeginning → AtEachTic EveryBoard → ∥ IsAccepted (plan_of plan) ∥₁ → IsBoardOf plan b
    → IfSome b.opened (λ o. Counts (open_count o.progress.stages (ids o.due)) r)
    → IfSome b.opened (λ o. IfMemory r (λ m. numbers m ≡ o.progress.memory))
    → IfSome b.opened (λ o. IfMemory r (λ _. new ≡ with_faults (faults_in o.progress.stages (ids o.due)) old))
    → (first : List ℤ) (steps : List Step)
    → IfSome b.opened (λ o. IsLeftBy (tic_at plan o) first steps o.progress → IfMemory r (λ m. ComesTo (serial (plan_of plan) o.on o.tic first) (numbers m) old new))
closes_serial {M} numbers plan b r old new begins board accepted belongs counts memory faults first steps =
    by_open b.opened r belongs.opened counts memory faults
  where
    by_open : (opened : Option Opened) (r : Closed M) → IfSome opened (IsOpenOf plan) → IfSome opened (λ o. Counts (open_count o.progress.stages (ids o.due)) r)
        → IfSome opened (λ o. IfMemory r (λ m. numbers m ≡ o.progress.memory))
        → IfSome opened (λ o. IfMemory r (λ _. new ≡ with_faults (faults_in o.progress.stages (ids o.due)) old))
        → IfSome opened (λ o. IsLeftBy (tic_at plan o) first steps o.progress → IfMemory r (λ m. ComesTo (serial (plan_of plan) o.on o.tic first) (numbers m) old new))
    by_open None r open_ counts memory faults = tt
    by_open (Some o) (Left count) open_ counts memory faults = λ left. tt
    by_open (Some o) (Memory m) open_ counts memory faults = λ left.
        let t = tic_at plan o in
        let none : open_count o.progress.stages (due_jobs t) ≡ 0 = subst (λ (l : List ℕ). open_count o.progress.stages l ≡ 0) open_.due counts in
        let end = ends_serial t first steps o.progress (begins plan o.on o.tic accepted) (board plan o.on o.tic accepted) left none in
        record {
          memory_is = memory ∙ end.0;
          faults_are = faults ∙ ap (λ (l : List ℕ). with_faults (faults_in o.progress.stages l) old) open_.due ∙ ap (λ (l : List JobFault). with_faults l old) end.1;
        }
