-- Whether a list of steps is a schedule, and what it comes to.
use Rattle.std.specs.Prelude.{◌≡◌, ℕ, ◌≤◌, ℤ, List, [], Some, length, slice_get, take}
use Rattle.trick_model.specs.FaultList.{FaultList, with_faults}
use Rattle.trick_model.specs.Running.{serial}
use Rattle.trick_phase.specs.declared.player.Played.{Played}
use Rattle.trick_phase.specs.declared.player.Played.TheVariants.{Done, Wrong}
use Rattle.trick_phase_schedules.specs.Schedule.{CanFollow, IsBegun, IsSchedule}
use Rattle.trick_phase_schedules.specs.Tics.{Tic}
use Rattle.trick_phase_schedules.specs.declared.step.Step.{Step}

-- The steps before this place begin a schedule, and no schedule goes on with the step that is there; or it
-- is the end of the list, and the steps are no whole schedule.
pub record IsWrongAt (t : Tic) (steps : List Step) (at_ : ℕ) : Type 0 where
  pub within : at_ ≤ length steps
  pub begun : IsBegun t (take at_ steps)
  pub stops : (x : Step) → slice_get steps at_ ≡ Some x → CanFollow t (take at_ steps) x → ⊥
  pub not_whole : at_ ≡ length steps → IsSchedule t steps → ⊥

-- The steps are a schedule, and come to what the due jobs come to, one after the other in key order.
pub record IsDone (t : Tic) (first : List ℤ) (steps : List Step) (memory : List ℤ) (faults : FaultList) : Type 0 where
  pub schedule : IsSchedule t steps
  pub memory_is : memory ≡ (serial t.plan t.on t.number first).memory
  pub faults_are : faults ≡ with_faults (serial t.plan t.on t.number first).faults (record { count = 0; first = [] })

-- What a play answers.
abbrev pub Plays : {M : Type 0} → (M → List ℤ) → Tic → List ℤ → List Step → Played M → Type 0
Plays numbers t first steps (Done memory faults) = IsDone t first steps (numbers memory) faults
Plays numbers t first steps (Wrong at_) = IsWrongAt t steps at_
