-- Whose checkpoint a text is, and what it is loaded as.
use Rattle.std.specs.Prelude.{◌≡◌, ℕ, List, Result, Ok, Err}
use Rattle.trick_codes.specs.declared.load_fault.LoadFault.TheVariants as fault
use Rattle.trick_codes.specs.declared.load_fault.LoadFault.{LoadFault}
use Rattle.trick_model.specs.Checkpoint.{checkpoint_text}
use Rattle.trick_model.specs.PlanOf.{plan_of}
use Rattle.trick_model.specs.State.{State}
use Rattle.trick_model.specs.ValidState.{IsStateOf}
use Rattle.trick_model.specs.declared.plan.Plan.{Plan}
use Rattle.trick_chkpt_state.specs.States.{HasNumbers}

-- The text is the checkpoint of this state, which is a valid one of the plan.
pub record IsCheckpointOf (plan : Plan) (given : List ℕ) (s : State) : Type 0 where
  pub valid : IsStateOf (plan_of plan) s
  pub numbers : HasNumbers s
  pub is : given ≡ checkpoint_text (plan_of plan) s

-- It is loaded as this state, or there was no memory.
abbrev pub IsLoadedAs : {X : Type 0} → (X → State) → State → Result X LoadFault → Type 0
IsLoadedAs view s (Ok x) = view x ≡ s
IsLoadedAs view s (Err e) = e ≡ fault.OutOfMemory
