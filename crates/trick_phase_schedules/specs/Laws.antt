-- Laws of schedules.
use Rattle.std.specs.List.{Contains}
use Rattle.std.specs.Prelude.{◌≡◌, ◌↔◌, ◌⊎◌, ℕ, ℤ, IsTrue, List, ◌∷◌, ◌++◌}
use Rattle.trick_model.specs.Acceptance.{IsAccepted}
use Rattle.trick_model.specs.Order.{precedes}
use Rattle.trick_model.specs.PlanOf.{plan_of}
use Rattle.trick_model.specs.Running.{serial}
use Rattle.trick_model.specs.declared.flags.Flags.{Flags}
use Rattle.trick_model.specs.declared.plan.Plan.{Plan as PlanValue}
use Rattle.trick_phase_schedules.specs.Play.{copy_of, faults_in, is_done, opening, played, stage_at}
use Rattle.trick_phase_schedules.specs.Progress.{IsInOrder, IsSound, begun, moved, progress_of}
use Rattle.trick_phase_schedules.specs.Schedule.{CanFollow, IsBegun, IsSchedule, one_by_one}
use Rattle.trick_phase_schedules.specs.Tics.{IsDueIn, IsPredecessor, Tic, due_jobs, tic_of}
use Rattle.trick_phase_schedules.specs.declared.stage.Stage.{Stage}
use Rattle.trick_phase_schedules.specs.declared.stage.Stage.TheVariants.{InFlight, Waiting}
use Rattle.trick_phase_schedules.specs.declared.step.Step.{Step}
use Rattle.trick_phase_schedules.specs.declared.step.Step.TheVariants.{Take}

-- it holds of each tic of an accepted plan, with whatever flags
abbrev pub AtEachTic : (Tic → Type 0) → Type 0
AtEachTic P = (plan : PlanValue) (on : Flags) (number : ℕ) → ∥ IsAccepted (plan_of plan) ∥₁ → P (tic_of plan on number)

-- ---- every schedule gives the fold

-- What a schedule comes to is what the due jobs come to, one after the other in key order.
pub record IsSerial (t : Tic) (first : List ℤ) (steps : List Step) : Type 0 where
  pub memory : (played t (opening t first) steps).memory ≡ (serial t.plan t.on t.number first).memory
  pub faults : faults_in (played t (opening t first) steps).stages (due_jobs t)
      ≡ (serial t.plan t.on t.number first).faults

abbrev pub EverySchedule : Tic → Type 0
EverySchedule t = (first : List ℤ) (steps : List Step) → IsSchedule t steps → IsSerial t first steps

-- After each beginning of a schedule memory and faults are those of the committed jobs, and no copy is stale.
abbrev pub EveryBeginning : Tic → Type 0
EveryBeginning t = (first : List ℤ) (steps : List Step) → IsBegun t steps
    → IsSound t first (played t (opening t first) steps)

-- ---- a board, which keeps no copies

-- A board goes with a play.
abbrev pub EveryBoard : Tic → Type 0
EveryBoard t = (first : List ℤ) (steps : List Step) → IsBegun t steps
    → moved t (begun t first) steps ≡ progress_of (played t (opening t first) steps)

-- What a job was given at its take stays its copy in all that comes after.
abbrev pub EveryCopy : Tic → Type 0
EveryCopy t = (first : List ℤ) (early late : List Step) (k : ℕ) → IsBegun t (early ++ late)
    → Contains early (Take (record { 0 = k }))
    → copy_of (played t (opening t first) (early ++ late)) k ≡ copy_of (played t (opening t first) early) k

-- ---- how schedules go on

-- The due jobs one by one in key order are a schedule.
abbrev pub OneByOne : Tic → Type 0
OneByOne t = IsSchedule t (one_by_one (due_jobs t))

-- The least of the due jobs that are not committed.
pub record IsLeastOpen (t : Tic) (stages : List Stage) (k : ℕ) : Type 0 where
  pub due : IsDueIn t k
  pub open_ : IsTrue (is_done (stage_at stages k)) → ⊥
  pub least : (a : ℕ) → IsDueIn t a → IsTrue (precedes t.plan.jobs a k) → IsTrue (is_done (stage_at stages a))

-- It is in flight, or it waits and all of its predecessors are committed: so something can always be done.
abbrev pub IsReady : Tic → List Stage → ℕ → Type 0
IsReady t stages k =
    (stage_at stages k ≡ InFlight)
    ⊎ ((stage_at stages k ≡ Waiting) × ((a : ℕ) → IsPredecessor t a k → IsTrue (is_done (stage_at stages a))))

pub record GoesOn (t : Tic) : Type 0 where
  -- The steps begin a schedule where each can follow those before it, and only there.
  pub words : (steps : List Step) → IsBegun t steps
      ↔ ((early late : List Step) (x : Step) → steps ≡ early ++ x ∷ late → CanFollow t early x)
  -- The steps begin a schedule where more steps make them a whole one, and only there.
  pub on : (steps : List Step) → IsBegun t steps ↔ ((rest : List Step) × IsSchedule t (steps ++ rest))
  -- The least job that is not committed is in flight or ready.
  pub ready : (stages : List Stage) (k : ℕ) → IsInOrder t stages → IsLeastOpen t stages k → IsReady t stages k
