-- The state from which a plan is run, as it was found, or why there is none.
use Rattle.std.specs.Prelude.{◌≡◌, ◌⊎◌, ℕ, ℤ, List, Option, Some}
use Rattle.trick_codes.specs.declared.load_fault.LoadFault.{LoadFault}
use Rattle.trick_phase_jobs.specs.Belongs.{IsMemoryOf}
use Rattle.trick_lang.specs.declared.scalar.Scalar.{Scalar}
use Rattle.trick_model.specs.PlanOf.{plan_of}
use Rattle.trick_model.specs.State.{State}
use Rattle.trick_model.specs.ValidState.{IsStateOf}
use Rattle.trick_model.specs.declared.plan.Plan.{Plan}
use Rattle.trick_top_refusals.specs.Checkpoint.{checkpoint_line}
use Rattle.trick_top_alone.specs.First.{IsFirst, IsUnloaded}
use Rattle.trick_top_alone.specs.Verdict.{OutOfMemory, TextRefused, Verdict}

-- This is the state from which the plan is run; it is a valid one, and its memory has the plan's cells.
pub record HasFirst (plan : Plan) (from : Option (List ℕ)) (s : State) (numbers : List ℤ) (scalars : List Scalar)
    : Type 0 where
  pub starts : IsFirst plan from s
  pub valid : IsStateOf (plan_of plan) s
  pub memory : IsMemoryOf plan.program numbers scalars

-- The text to go on from is no checkpoint of the plan, and is refused by its line.
pub record IsNoCheckpoint (plan : Plan) (from : Option (List ℕ)) (verdict : Verdict) : Type 0 where
  pub text : List ℕ
  pub why : LoadFault
  pub goes_on : from ≡ Some text
  pub unloaded : IsUnloaded plan text why
  pub told : verdict ≡ TextRefused (checkpoint_line why)

-- There is no such state: the text is no checkpoint, or there was no memory.
abbrev pub HasNoFirst : Plan → Option (List ℕ) → Verdict → Type 0
HasNoFirst plan from verdict = IsNoCheckpoint plan from verdict ⊎ (verdict ≡ OutOfMemory)
