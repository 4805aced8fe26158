-- Which states have a checkpoint.
use Rattle.std.specs.Prelude.{◌≤◌, All}
use Rattle.trick_chkpt_lines.specs.CheckpointLines.{checkpoint}
use Rattle.trick_codes.specs.Lines.{Holds}
use Rattle.trick_lang.specs.declared.fault.JobFault.{JobFault}
use Rattle.trick_model.specs.PlanOf.{plan_of}
use Rattle.trick_model.specs.State.{State}
use Rattle.trick_model.specs.ValidState.{IsStateOf}
use Rattle.trick_model.specs.declared.plan.Plan.{Plan}

-- What a value of the code keeps by its types: how many faults there are, and their lines.
pub record HasNumbers (s : State) : Type 0 where
  pub count : s.faults.count ≤ 18446744073709551615
  pub lines : All (λ (fault : JobFault). fault.line ≤ 4294967295) s.faults.first

-- What has a checkpoint is a valid state of the plan.
abbrev pub CheckpointsAreOfStates : Type 0
CheckpointsAreOfStates = (plan : Plan) (s : State) → Holds (checkpoint plan) s → IsStateOf (plan_of plan) s

-- The numbers of what has a checkpoint are those that a value of the code can keep.
abbrev pub CheckpointsHaveNumbers : Type 0
CheckpointsHaveNumbers = (plan : Plan) (s : State) → Holds (checkpoint plan) s → HasNumbers s

-- Each valid state of the plan has a checkpoint.
abbrev pub StatesHaveCheckpoints : Type 0
StatesHaveCheckpoints =
    (plan : Plan) (s : State) → IsStateOf (plan_of plan) s → HasNumbers s → Holds (checkpoint plan) s
