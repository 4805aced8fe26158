-- Laws of checkpoints.
use Rattle.std.specs.Prelude.{◌≡◌, ℕ, List, [], ◌++◌}
use Rattle.trick_chkpt_lines.specs.CheckpointLines.{checkpoint}
use Rattle.trick_codes.specs.Lines.{Holds, text}
use Rattle.trick_model.specs.Checkpoint.{checkpoint_text}
use Rattle.trick_model.specs.PlanOf.{plan_of}
use Rattle.trick_model.specs.State.{State}
use Rattle.trick_model.specs.declared.plan.Plan.{Plan}

-- No checkpoint of a plan is a proper prefix of another, and each is of one state.
abbrev pub NoPrefix : Type 0
NoPrefix =
    (plan : Plan) (s t : State) (more : List ℕ) → Holds (checkpoint plan) s
    → Holds (checkpoint plan) t
    → checkpoint_text (plan_of plan) s ++ more ≡ checkpoint_text (plan_of plan) t → (s ≡ t) × (more ≡ [])

-- The lines of a checkpoint are the text of its state.
abbrev pub OneText : Type 0
OneText = (plan : Plan) (s : State) → Holds (checkpoint plan) s
    → text (checkpoint plan) s ≡ checkpoint_text (plan_of plan) s
