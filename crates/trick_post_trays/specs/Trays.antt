-- What was handed to a thread, and what a worker has.
use Rattle.std.specs.List.{slice_index_or}
use Rattle.std.specs.Option.{IfSome, option_map}
use Rattle.std.specs.Prelude.{◌≡◌, ℕ, ◌<◌, Bool, true, false, IsTrue, All, List, [], length, Option, None}
use Rattle.trick_access.specs.Ranges.{AreCellsOf}
use Rattle.trick_eval.specs.Bench.{IsFor}
use Rattle.trick_phase_jobs.specs.Belongs.{IsMemoryOf}
use Rattle.trick_lang.specs.Effect.{scalars_of, writes}
use Rattle.trick_lang.specs.declared.job.JobId.{JobId}
use Rattle.trick_lang.specs.declared.range.CellRange.{CellRange}
use Rattle.trick_model.specs.Access.{scope}
use Rattle.trick_model.specs.Beside.{flag_in, spread, zeros}
use Rattle.trick_model.specs.FaultList.{FaultList, with_faults}
use Rattle.trick_model.specs.Laws.{is_among}
use Rattle.trick_model.specs.Plan.{is_on, jobs_of}
use Rattle.trick_model.specs.PlanOf.{plan_of}
use Rattle.trick_model.specs.Running.{after_jobs}
use Rattle.trick_model.specs.Valid.{ids}
use Rattle.trick_model.specs.declared.flags.Flags.{Flags}
use Rattle.trick_model.specs.declared.plan.Plan.{Plan as PlanValue}
use Rattle.trick_model.specs.declared.thread.Process.TheVariants as process
use Rattle.trick_model.specs.declared.thread.Thread.{Thread}
use Rattle.trick_post_trays.specs.Calendars.{IsCalendar, scheduled_of}
use Rattle.trick_post_trays.specs.Scratch.{cell_ids, cleared}
use Rattle.trick_post_trays.specs.declared.tray.Tray.{Tray}
use Rattle.trick_post_trays.specs.declared.worker.Worker.{Worker}
use Rattle.trick_post_work.specs.Work.{CanStart, Started}

-- a thread of a number, whose jobs and cells are asked for
abbrev pub numbered : ℕ → Thread
numbered number = record { number = number; process = process.Scheduled; cycle = 0; named = false }

-- what a tray holds, if it holds work
abbrev pub held_in : Tray → Option Started
held_in tray = option_map (λ w. record {
  taken = record { held = true; cells = tray.cells.items; on = record { on = tray.on.items } };
  work = w;
}) tray.work

-- The tray is that of a thread: its jobs and its cells, with room for a number and a flag each. What it
-- holds is something that the thread can be handed.
pub record IsTrayOf (plan : PlanValue) (tray : Tray) : Type 0 where
  pub calendar : IsCalendar plan tray.calendar
  pub jobs : ids tray.calendar.jobs ≡ scheduled_of (plan_of plan) tray.number
  pub members : ids tray.members ≡ jobs_of plan.program.jobs (numbered tray.number)
  pub scope_is : cell_ids tray.scope ≡ scope (plan_of plan) (numbered tray.number)
  pub cells_room : length tray.cells.items ≡ length tray.scope
  pub flags_room : length tray.on.items ≡ length tray.members
  pub right : ∥ IfSome (held_in tray) (λ s. CanStart (plan_of plan) tray.number s.taken s.work) ∥₁

-- The cells that each job may write.
abbrev pub AreWrites : PlanValue → List (List CellRange) → Type 0
AreWrites plan all = (k : ℕ) → k < length plan.program.jobs
    → AreCellsOf (length plan.program.cells) (writes plan.program (record { 0 = k })) (slice_index_or all k [])

-- These are jobs among so many.
abbrev pub AreThere : List JobId → ℕ → Type 0
AreThere jobs count = All (λ (job : JobId). job.0 < count) jobs

-- Each of these jobs has its flag.
abbrev pub AreSet : List ℕ → List Bool → Flags → Type 0
AreSet jobs flags on = (k : ℕ) → IsTrue (is_among k jobs) → is_on on k ≡ flag_in jobs flags k

-- The worker is one for the plan, and its memory is clear.
pub record IsWorkerOf (plan : PlanValue) (w : Worker) : Type 0 where
  pub bench : IsFor plan.program w.bench.parts
  pub clear : w.scratch ≡ cleared plan.program
  pub flags : length w.on.on ≡ length plan.program.jobs
  pub writes_are : AreWrites plan w.writes

-- There is a tray for each number of a thread.
pub record AreTraysOf (plan : PlanValue) (trays : List Tray) : Type 0 where
  pub many : length trays ≡ 16
  pub numbers : (k : ℕ) (d : Tray) → k < 16 → (slice_index_or trays k d).number ≡ k
  pub right : (k : ℕ) (d : Tray) → k < 16 → IsTrayOf plan (slice_index_or trays k d)

-- None of them has work.
pub record AreEmptyTraysOf (plan : PlanValue) (trays : List Tray) : Type 0 where
  pub are : AreTraysOf plan trays
  pub empty : (k : ℕ) (d : Tray) → k < length trays → (slice_index_or trays k d).work ≡ None

-- What running jobs leaves of a worker: its memory is what they make of it, and their faults are added.
pub record HasRun (plan : PlanValue) (tic : ℕ) (jobs : List ℕ) (old new : Worker) (were are : FaultList) : Type 0 where
  pub numbers : new.scratch.numbers
      ≡ (after_jobs (plan_of plan) (is_on old.on) tic jobs old.scratch.numbers).memory
  pub faults : are ≡ with_faults (after_jobs (plan_of plan) (is_on old.on) tic jobs old.scratch.numbers).faults were
  pub memory : IsMemoryOf plan.program new.scratch.numbers new.scratch.scalars
  pub bench : new.bench.parts ≡ old.bench.parts
  pub flags : new.on ≡ old.on
  pub writes_are : new.writes ≡ old.writes

-- What a tray holds is laid out: its numbers stand in their cells, and its jobs have their flags.
pub record IsLaidOut (plan : PlanValue) (tray : Tray) (old new : Worker) : Type 0 where
  pub numbers : new.scratch.numbers
      ≡ spread (scope (plan_of plan) (numbered tray.number)) tray.cells.items (zeros (plan_of plan))
  pub scalars : new.scratch.scalars ≡ scalars_of plan.program.cells
  pub set : AreSet (jobs_of plan.program.jobs (numbered tray.number)) tray.on.items new.on
  pub flags : length new.on.on ≡ length plan.program.jobs
  pub bench : new.bench ≡ old.bench
  pub writes_are : new.writes ≡ old.writes
