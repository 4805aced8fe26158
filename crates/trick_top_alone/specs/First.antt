-- The state from which a run starts: that of the plan's start, or the one of which a text is the checkpoint.
use Rattle.std.specs.Prelude.{◌≡◌, ◌≢◌, ℕ, List, Option, Some, None}
use Rattle.trick_chkpt_lines.specs.CheckpointLines.{checkpoint}
use Rattle.trick_codes.specs.Loads.{Refuses}
use Rattle.trick_codes.specs.declared.load_fault.LoadFault.TheVariants as fault
use Rattle.trick_codes.specs.declared.load_fault.LoadFault.{LoadFault}
use Rattle.trick_model.specs.PlanOf.{plan_of}
use Rattle.trick_model.specs.Run.{start}
use Rattle.trick_model.specs.State.{State}
use Rattle.trick_model.specs.declared.plan.Plan.{Plan}
use Rattle.trick_chkpt_state.specs.Loaded.{IsCheckpointOf}

-- The text is the checkpoint of this state of a plan, and of no other one.
pub record IsLoadedFrom (plan : Plan) (text : List ℕ) (s : State) : Type 0 where
  pub is : IsCheckpointOf plan text s
  pub only : (other : State) → IsCheckpointOf plan text other → other ≡ s

-- The state from which a run of a plan starts; with a text, of which that is the checkpoint.
abbrev pub IsFirst : Plan → Option (List ℕ) → State → Type 0
IsFirst plan None s = s ≡ start (plan_of plan)
IsFirst plan (Some text) s = IsLoadedFrom plan text s

-- The text is the checkpoint of no state of a plan, for this reason.
pub record IsUnloaded (plan : Plan) (text : List ℕ) (why : LoadFault) : Type 0 where
  pub refused : Refuses (checkpoint plan) text why
  pub known : why ≢ fault.OutOfMemory
  pub none : (s : State) → IsCheckpointOf plan text s → ⊥
