-- Laws of plans.
use Rattle.std.specs.Prelude.{◌≡◌, List, Ok, Err}
use Rattle.trick_plan_draft.specs.declared.draft.Draft.{Draft}
use Rattle.trick_input.specs.declared.call.Call.{Call}
use Rattle.trick_lang.specs.declared.program.Program.{Program}
use Rattle.trick_plan_lines.specs.declared.fault.JoinFault.{JoinFault}
use Rattle.trick_plan_lines.specs.declared.fault.JoinFault.TheVariants as fault
use Rattle.trick_model.specs.declared.plan.Plan.{Plan}
use Rattle.trick_model.specs.PlanOf.{plan_of}
use Rattle.trick_plan.specs.Meaning.{plan_said}
use Rattle.trick_plan.specs.Plan.{AreAnswered, IsPlan}
use Rattle.trick_plan_settings.specs.Settings.{settings_in}

-- What is named twice here is one, but for a want of memory.
pub record HaveOneAnswer (p : Program) (calls : List Call) : Type 0 where
  -- lines that make a plan are not refused
  pub made : (plan : Plan) (refused : JoinFault) → IsPlan p calls (Ok plan) → IsPlan p calls (Err refused)
      → refused ≡ fault.OutOfMemory
  -- lines that are refused are refused in one way
  pub refused : (first second : JoinFault) → IsPlan p calls (Err first) → IsPlan p calls (Err second)
      → (first ≡ fault.OutOfMemory → ⊥)
      → (second ≡ fault.OutOfMemory → ⊥)
      → first ≡ second

-- A program and the lines of an input have one answer.
abbrev pub AnswersAreOne : Type 0
AnswersAreOne = (p : Program) (calls : List Call) → HaveOneAnswer p calls

-- A plan means what the lines have said.
abbrev pub PlansAreSaid : Type 0
PlansAreSaid =
    (p : Program) (calls : List Call) (plan : Plan) (d : Draft)
    → AreAnswered p calls (Ok d)
    → IsPlan p calls (Ok plan)
    → plan_of plan ≡ plan_said p (settings_in p.jobs calls) d
