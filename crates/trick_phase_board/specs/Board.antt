-- What a board is, and which boards are a plan's.
use Rattle.std.specs.Option.{IfSome}
use Rattle.std.specs.Prelude.{◌≡◌, ℕ, ◌+◌, ◌-◌, ◌^◌, ◌<◌, ◌≤◌, ◌==◌, if◌then◌else◌, ℤ, Bool, IsTrue, List, [], ◌∷◌, length, Option, Some}
use Rattle.trick_phase_board.specs.Tables.{IsFor}
use Rattle.trick_phase_board.specs.declared.tables.Tables.{Tables}
use Rattle.trick_phase_jobs.specs.Belongs.{IsMemoryOf}
use Rattle.trick_lang.specs.declared.job.JobId.{JobId}
use Rattle.trick_lang.specs.declared.scalar.Scalar.{Scalar}
use Rattle.trick_model.specs.Laws.{is_among}
use Rattle.trick_model.specs.Plan.{is_on}
use Rattle.trick_model.specs.PlanOf.{plan_of}
use Rattle.trick_model.specs.Valid.{ids}
use Rattle.trick_model.specs.declared.flags.Flags.{Flags}
use Rattle.trick_model.specs.declared.plan.Plan.{Plan as PlanValue}
use Rattle.trick_phase_schedules.specs.Play.{is_due, stage_at}
use Rattle.trick_phase_schedules.specs.Progress.{Progress, begun, move, moved}
use Rattle.trick_phase_schedules.specs.Tics.{Tic, due_jobs, tic_of}
use Rattle.trick_phase_schedules.specs.declared.stage.Stage.{Stage}
use Rattle.trick_phase_schedules.specs.declared.step.Step.{Step}
use Rattle.trick_phase_schedules.specs.declared.step.Step.TheVariants.{Commit, Take}

-- An open tic: its number, the flags of the jobs, its due jobs in key order, the types of the memory's
-- cells, and how far it is.
pub record Opened : Type 0 where
  pub tic : ℕ
  pub on : Flags
  pub due : List JobId
  pub scalars : List Scalar
  pub progress : Progress

-- an open tic, by the fields of a board
abbrev pub opened_of : {M : Type 0} → (M → List ℤ) → (M → List Scalar) → ℕ → List Bool → List JobId → List Stage → M
    → Opened
opened_of numbers scalars tic on due stages m = record {
  tic = tic;
  on = record { on = on };
  due = due;
  scalars = scalars m;
  progress = record { memory = numbers m; stages = stages };
}

-- A board has the number of its last phase and the tic that is open, if one is.
pub record BoardView : Type 0 where
  pub phase : ℕ
  pub tables : Tables
  pub opened : Option Opened
  pub jobs : ℕ

-- the buffers have room for all jobs and threads
pub record IsRoomy (jobs flags due room counts ranks left : ℕ) : Type 0 where
  pub limit : jobs ≤ 512
  pub flags_are : flags ≡ jobs
  pub few : due ≤ jobs
  pub room_is : jobs ≤ room
  pub counts_are : counts ≡ jobs
  pub ranks_are : ranks ≡ jobs
  pub left_are : left ≡ 16

-- each job that is due is one of these
abbrev pub AreDueAmong : List ℕ → List Stage → Type 0
AreDueAmong ks stages = (k : ℕ) → IsTrue (is_due (stage_at stages k)) → IsTrue (is_among k ks)

-- the tic that is open
abbrev pub tic_at : PlanValue → Opened → Tic
tic_at plan o = tic_of plan o.on o.tic

-- an open tic is one of the plan, and its stages say which jobs are due
pub record IsOpenOf (plan : PlanValue) (o : Opened) : Type 0 where
  pub due : ids o.due ≡ due_jobs (tic_at plan o)
  pub stages : (k : ℕ) → is_due (stage_at o.progress.stages k) ≡ is_among k (due_jobs (tic_at plan o))
  pub memory : IsMemoryOf plan.program o.progress.memory o.scalars

-- The board is one of the plan.
pub record IsBoardOf (plan : PlanValue) (b : BoardView) : Type 0 where
  pub tables : IsFor (plan_of plan) b.tables
  pub many : b.jobs ≡ length plan.program.jobs
  pub opened : IfSome b.opened (IsOpenOf plan)

-- the phase after another one: after the last number comes 1
abbrev pub next_phase : ℕ → ℕ
next_phase phase = if phase == 2 ^ 64 - 1 then 1 else phase + 1

-- What an open leaves: the flags are those of the jobs, and no step is done.
pub record IsOpenedWith (plan : PlanValue) (numbers : List ℤ) (on : Flags) (tic : ℕ) (o : Opened) : Type 0 where
  pub flags : (k : ℕ) → k < length plan.program.jobs → is_on o.on k ≡ is_on on k
  pub tic_is : o.tic ≡ tic
  pub progress : o.progress ≡ begun (tic_at plan o) numbers

-- The board after a step.
abbrev pub stepped : PlanValue → BoardView → Opened → Step → BoardView
stepped plan b o x = record b { opened = Some (record o { progress = move (tic_at plan o) o.progress x }) }

-- The board after a job is taken and at once committed.
abbrev pub with_run : PlanValue → BoardView → Opened → JobId → BoardView
with_run plan b o job = record b {
  opened = Some (record o { progress = moved (tic_at plan o) o.progress (Take job ∷ Commit job ∷ []) });
}
