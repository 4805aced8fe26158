-- A job that is taken, evaluated and at once committed.
use Rattle.std.proofs.Common.{◌≡◌, ◌∙◌, ℕ, ◌<◌, pos, length, Option, Some, None, refl, sym, ap, subst}
use Rattle.std.proofs.lemmas.Bool.{false≢true}
use Rattle.std.proofs.lemmas.List.{get_or-set_same}
use Rattle.std.specs.List.{slice_index_or}
use Rattle.std.specs.Option.{IfSome}
use Rattle.std.specs.Prelude.{IsSome}
use Rattle.trick_phase_board.specs.Answers.{IsEmptiedOf, IsFilledBy}
use Rattle.trick_phase_board.specs.Board.{BoardView, Opened, stepped, with_run}
use Rattle.trick_eval.specs.Bench.{BenchView, IsEvaluated, IsFilled, the_job}
use Rattle.trick_lang.specs.Effect.{effect, reads}
use Rattle.trick_lang.specs.Laws.{AgreeOn}
use Rattle.trick_lang.specs.declared.job.JobId.{JobId}
use Rattle.trick_model.specs.declared.plan.Plan.{Plan as PlanValue}
use Rattle.trick_phase_schedules.proofs.Steps.{inside}
use Rattle.trick_phase_schedules.specs.Play.{is_due, stage_at}
use Rattle.trick_phase_schedules.specs.declared.stage.Stage.TheVariants.{InFlight, Waiting}
use Rattle.trick_phase_schedules.specs.declared.step.Step.TheVariants.{Commit, Take}

-- a bench that a take filled has the job
pub fill_job : (phase : ℕ) (plan : PlanValue) (opened : Option Opened) (was filled : BenchView) (job : JobId) → IsSome opened
    → IfSome opened (λ o. IsFilledBy phase (reads plan.program job) o.progress.memory was filled job) → filled.job ≡ Some job
fill_job phase plan None was filled job some fill = absurd (false≢true some)
fill_job phase plan (Some o) was filled job some fill = ap (λ (b : BenchView). b.job) fill.bench

-- and the buffers that it had
pub fill_parts : (phase : ℕ) (plan : PlanValue) (opened : Option Opened) (was filled : BenchView) (job : JobId) → IsSome opened
    → IfSome opened (λ o. IsFilledBy phase (reads plan.program job) o.progress.memory was filled job) → filled.parts ≡ was.parts
fill_parts phase plan None was filled job some fill = absurd (false≢true some)
fill_parts phase plan (Some o) was filled job some fill = ap (λ (b : BenchView). b.parts) fill.bench

pub fill_filled : (plan : PlanValue) (filled : BenchView) (job : JobId) → filled.job ≡ Some job → job.0 < length plan.program.jobs
    → IsFilled plan.program filled
fill_filled plan filled job is there =
    subst (λ (j : Option JobId). (j ≡ Some (the_job j)) × ((the_job j).0 < length plan.program.jobs)) (sym is) (refl, there)

-- The job is in flight, evaluated, and has the inputs that the memory has.
pub record IsUnderway (plan : PlanValue) (b : BoardView) (job : JobId) (bench : BenchView) : Type 0 where
  pub open_ : IsSome b.opened
  pub job_is : bench.job ≡ Some job
  pub evaluated : IsEvaluated plan.program bench
  pub flies : IfSome b.opened (λ o. stage_at o.progress.stages job.0 ≡ InFlight)
  pub inputs : IfSome b.opened (λ o. AgreeOn (reads plan.program job) o.progress.memory bench.inputs)

pub underway : (plan : PlanValue) (old new : BoardView) (job : JobId) (was filled done : BenchView) → IsSome old.opened
    → IfSome old.opened (λ o. stage_at o.progress.stages job.0 ≡ Waiting)
    → IfSome old.opened (λ o. new ≡ stepped plan old o (Take job))
    → IfSome old.opened (λ o. IsFilledBy old.phase (reads plan.program job) o.progress.memory was filled job)
    → done ≡ record filled { outcome = Some (effect plan.program (the_job filled.job) filled.inputs) }
    → IsUnderway plan new job done
underway plan old new job was filled done some waits taken fill evaluated = by_open old.opened some waits taken fill
  where
    by_open : (opened : Option Opened) → IsSome opened → IfSome opened (λ o. stage_at o.progress.stages job.0 ≡ Waiting)
        → IfSome opened (λ o. new ≡ stepped plan old o (Take job))
        → IfSome opened (λ o. IsFilledBy old.phase (reads plan.program job) o.progress.memory was filled job)
        → IsUnderway plan new job done
    by_open None some waits taken fill = absurd (false≢true some)
    by_open (Some o) some waits taken fill = subst (λ (b : BoardView). IsUnderway plan b job done) (sym taken) (record {
      open_ = refl;
      job_is = ap (λ (b : BenchView). b.job) evaluated ∙ ap (λ (b : BenchView). b.job) fill.bench;
      evaluated = subst (IsEvaluated plan.program) (sym evaluated) refl;
      flies = get_or-set_same o.progress.stages job.0 InFlight _ (inside o.progress.stages job.0 (ap is_due waits));
      inputs = λ c within. sym (ap (λ (b : BenchView). slice_index_or b.inputs c (pos 0)) evaluated ∙ fill.inputs c within);
    })

-- a take and then a commit are a run
pub taken_run : (plan : PlanValue) (old new after : BoardView) (job : JobId) → IsSome old.opened
    → IfSome old.opened (λ o. new ≡ stepped plan old o (Take job)) → IfSome new.opened (λ o. after ≡ stepped plan new o (Commit job))
    → IfSome old.opened (λ o. after ≡ with_run plan old o job)
taken_run plan old new after job some taken committed = by_open old.opened some taken
  where
    by_open : (opened : Option Opened) → IsSome opened → IfSome opened (λ o. new ≡ stepped plan old o (Take job))
        → IfSome opened (λ o. after ≡ with_run plan old o job)
    by_open None some taken = absurd (false≢true some)
    by_open (Some o) some taken = subst (λ (b : BoardView). IfSome b.opened (λ o. after ≡ stepped plan b o (Commit job))) taken committed

-- the bench is empty then
pub cleared : (phase : ℕ) (plan : PlanValue) (opened : Option Opened) (was filled done empty : BenchView) (job : JobId) → IsSome opened
    → IfSome opened (λ o. IsFilledBy phase (reads plan.program job) o.progress.memory was filled job)
    → done ≡ record filled { outcome = Some (effect plan.program (the_job filled.job) filled.inputs) }
    → empty ≡ record done { phase = 0; job = None; outcome = None } → IsEmptiedOf was empty
cleared phase plan None was filled done empty job some fill evaluated clear = absurd (false≢true some)
cleared phase plan (Some o) was filled done empty job some fill evaluated clear =
    let whole : empty ≡ record was { phase = 0; job = None; outcome = None; inputs = filled.inputs } =
    clear ∙ ap (λ (b : BenchView). record b { phase = 0; job = None; outcome = None }) evaluated
    ∙ ap (λ (b : BenchView). record b { phase = 0; job = None; outcome = None }) fill.bench in
    subst (λ (b : BenchView). IsEmptiedOf was b) (sym whole) refl
