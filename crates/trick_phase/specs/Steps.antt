-- What a board and benches are on the way through a tic.
use Rattle.std.specs.List.{slice_index_or}
use Rattle.std.specs.Option.{IfSome}
use Rattle.std.specs.Prelude.{◌≡◌, ◌≢◌, ℕ, ◌<◌, ◌==◌, ℤ, Bool, true, false, List, [], length, slice_set, MatchOption, Option, Some, None}
use Rattle.trick_phase_board.specs.Answers.{IsReadyOn}
use Rattle.trick_phase_board.specs.Board.{BoardView, Opened, stepped, tic_at, with_run}
use Rattle.trick_eval.specs.Bench.{BenchView, IsEvaluated, IsFor}
use Rattle.trick_lang.specs.Effect.{reads}
use Rattle.trick_lang.specs.Laws.{AgreeOn}
use Rattle.trick_lang.specs.declared.job.JobId.{JobId}
use Rattle.trick_model.specs.Plan.{is_on, thread_of}
use Rattle.trick_model.specs.declared.flags.Flags.{Flags}
use Rattle.trick_model.specs.declared.plan.Plan.{Plan as PlanValue}
use Rattle.trick_phase_schedules.specs.Play.{stage_at}
use Rattle.trick_phase_schedules.specs.Progress.{begun, moved}
use Rattle.trick_phase_schedules.specs.Schedule.{IsBegun}
use Rattle.trick_phase_schedules.specs.declared.stage.Stage.TheVariants.{InFlight}
use Rattle.trick_phase_schedules.specs.declared.step.Step.{Step}
use Rattle.trick_phase_schedules.specs.declared.step.Step.TheVariants.{Commit, Take}

-- The open tic has come so far by these steps from this memory on.
pub record IsAlong (plan : PlanValue) (on : Flags) (tic : ℕ) (first : List ℤ) (steps : List Step) (o : Opened)
    : Type 0 where
  pub flags : (k : ℕ) → k < length plan.program.jobs → is_on o.on k ≡ is_on on k
  pub tic_is : o.tic ≡ tic
  pub progress : o.progress ≡ moved (tic_at plan o) (begun (tic_at plan o) first) steps

-- it is so with a board that is open
abbrev pub IsBoardAlong : PlanValue → Flags → ℕ → List ℤ → List Step → BoardView → Type 0
IsBoardAlong plan on tic first steps b = MatchOption b.opened ⊥ (IsAlong plan on tic first steps)

-- The bench holds what a job of an open tic does, which is in flight.
pub record IsHeld (plan : PlanValue) (b : BoardView) (o : Opened) (job : JobId) (bench : BenchView) : Type 0 where
  pub job_is : bench.job ≡ Some job
  pub there : job.0 < length plan.program.jobs
  pub phase : bench.phase ≡ b.phase
  pub evaluated : IsEvaluated plan.program bench
  pub flies : stage_at o.progress.stages job.0 ≡ InFlight
  pub inputs : AgreeOn (reads plan.program job) o.progress.memory bench.inputs

-- so it is with the job of the bench, if it has one
abbrev pub HoldsRight : PlanValue → BoardView → BenchView → Type 0
HoldsRight plan b bench = MatchOption b.opened ⊥ (λ o. IfSome bench.job (λ job. IsHeld plan b o job bench))

-- the job can be taken
abbrev pub CanBeTaken : PlanValue → Opened → JobId → Type 0
CanBeTaken plan o job = IsReadyOn (tic_at plan o) o.progress.stages (thread_of plan.program.jobs job.0) job.0

-- A take of a job: it is taken and in the bench, or it can't be taken.
pub record HasTaken (plan : PlanValue) (old new : BoardView) (o : Opened) (job : JobId) (bench : BenchView)
    : Type 0 where
  pub could : CanBeTaken plan o job
  pub taken : new ≡ stepped plan old o (Take job)
  pub held : MatchOption new.opened ⊥ (λ now. IsHeld plan new now job bench)

abbrev pub TakesFrom : PlanValue → BoardView → BoardView → Option Opened → JobId → BenchView → Bool → Type 0
TakesFrom plan old new opened job bench true = IfSome opened (λ o. HasTaken plan old new o job bench)
TakesFrom plan old new opened job bench false = IfSome opened (λ o. CanBeTaken plan o job → ⊥)

abbrev pub Takes : PlanValue → BoardView → BoardView → JobId → BenchView → Bool → Type 0
Takes plan old new job bench answer = TakesFrom plan old new old.opened job bench answer

-- A commit of a job: it is committed and the bench is empty, or it is not in the bench.
pub record HasCommitted (plan : PlanValue) (old new : BoardView) (o : Opened) (job : JobId) (was bench : BenchView)
    : Type 0 where
  pub held : was.job ≡ Some job
  pub committed : new ≡ stepped plan old o (Commit job)
  pub emptied : bench.job ≡ None

abbrev pub Commits : PlanValue → BoardView → BoardView → JobId → BenchView → BenchView → Bool → Type 0
Commits plan old new job was bench true = IfSome old.opened (λ o. HasCommitted plan old new o job was bench)
Commits plan old new job was bench false = was.job ≢ Some job

-- A run of a job: it is taken and at once committed, or it can't be taken.
pub record HasRun (plan : PlanValue) (old new : BoardView) (o : Opened) (job : JobId) : Type 0 where
  pub could : CanBeTaken plan o job
  pub run : new ≡ with_run plan old o job

abbrev pub RunsFrom : PlanValue → BoardView → BoardView → Option Opened → JobId → Bool → Type 0
RunsFrom plan old new opened job true = IfSome opened (λ o. HasRun plan old new o job)
RunsFrom plan old new opened job false = IfSome opened (λ o. CanBeTaken plan o job → ⊥)

abbrev pub Runs : PlanValue → BoardView → BoardView → JobId → Bool → Type 0
Runs plan old new job answer = RunsFrom plan old new old.opened job answer

-- the bench has the job
abbrev pub has_job : Option JobId → JobId → Bool
has_job None job = false
has_job (Some held) job = held.0 == job.0

-- ---- a bench for each thread

-- no bench, for a thread that has none
abbrev pub no_bench : BenchView
no_bench = record {
  phase = 0;
  job = None;
  inputs = [];
  outcome = None;
  parts = record { cells = 0; slots = 0; room = 0; reads = [] };
}

-- the bench of a thread
abbrev pub bench_at : List BenchView → ℕ → BenchView
bench_at benches thread = slice_index_or benches thread no_bench

-- Each thread has a bench, which holds the job of the thread that is in flight, if one is.
pub record AreBenches (plan : PlanValue) (b : BoardView) (benches : List BenchView) : Type 0 where
  pub many : length benches ≡ 16
  pub own : (thread : ℕ) → thread < 16 → IsFor plan.program (bench_at benches thread).parts
  pub holds : (thread : ℕ) → thread < 16 → HoldsRight plan b (bench_at benches thread)
  pub on_thread : (thread : ℕ) → thread < 16
      → IfSome (bench_at benches thread).job (λ job. thread_of plan.program.jobs job.0 ≡ thread)
  pub found : MatchOption b.opened ⊥ (λ o. (job : JobId) → stage_at o.progress.stages job.0 ≡ InFlight
      → (bench_at benches (thread_of plan.program.jobs job.0)).job ≡ Some job)

-- A job is taken into the bench of its thread.
pub record IsTakenInto (plan : PlanValue) (old new : BoardView) (o : Opened) (job : JobId)
    (were are : List BenchView) : Type 0 where
  pub bench : BenchView
  pub set : are ≡ slice_set were (thread_of plan.program.jobs job.0) bench
  pub own : IsFor plan.program bench.parts
  pub taken : HasTaken plan old new o job bench

-- A job is committed from the bench of its thread.
pub record IsCommittedFrom (plan : PlanValue) (old new : BoardView) (o : Opened) (job : JobId)
    (were are : List BenchView) : Type 0 where
  pub bench : BenchView
  pub set : are ≡ slice_set were (thread_of plan.program.jobs job.0) bench
  pub own : IsFor plan.program bench.parts
  pub committed : HasCommitted plan old new o job (bench_at were (thread_of plan.program.jobs job.0)) bench

-- A step is done, or it can't be.
abbrev pub GoesFrom : PlanValue → BoardView → BoardView → Option Opened → List BenchView → List BenchView → Step → Bool
    → Type 0
GoesFrom plan old new opened were are (Take job) true =
    IfSome opened (λ o. IsTakenInto plan old new o job were are)
GoesFrom plan old new opened were are (Take job) false = IfSome opened (λ o. CanBeTaken plan o job → ⊥)
GoesFrom plan old new opened were are (Commit job) true =
    IfSome opened (λ o. IsCommittedFrom plan old new o job were are)
GoesFrom plan old new opened were are (Commit job) false =
    (bench_at were (thread_of plan.program.jobs job.0)).job ≢ Some job

abbrev pub Goes : PlanValue → BoardView → BoardView → List BenchView → List BenchView → Step → Bool → Type 0
Goes plan old new were are x answer = GoesFrom plan old new old.opened were are x answer

-- The open tic has come so far by the beginning of a schedule.
pub record IsPlayed (plan : PlanValue) (on : Flags) (tic : ℕ) (first : List ℤ) (steps : List Step) (o : Opened)
    : Type 0 where
  pub along : IsAlong plan on tic first steps o
  pub begun : IsBegun (tic_at plan o) steps

abbrev pub IsBoardPlayed : PlanValue → Flags → ℕ → List ℤ → List Step → BoardView → Type 0
IsBoardPlayed plan on tic first steps b = MatchOption b.opened ⊥ (IsPlayed plan on tic first steps)
