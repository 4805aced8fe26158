-- What an S_define and an input say: a plan that is accepted, or the printed line of their refusal. The
-- S_define is read before the input, then both are joined, and the plan is judged last. A step refuses
-- only where all steps before it went well. A want of memory says nothing of a text.
use Rattle.std.specs.Global.{Global}
use Rattle.std.specs.Prelude.{◌≡◌, ◌≢◌, ℕ, List, Ok, Err}
use Rattle.std.specs.declared.vec.Vec.{Vec}
use Rattle.trick_check.specs.Named.{IsNamed}
use Rattle.trick_check.specs.Refused.{IsRefused}
use Rattle.trick_check.specs.declared.fault.CheckFault.{CheckFault}
use Rattle.trick_check.specs.declared.fault.CheckFault.TheVariants as check
use Rattle.trick_input.specs.Answers.{IsInput}
use Rattle.trick_input.specs.declared.call.Call.{Call}
use Rattle.trick_input.specs.declared.fault.InputFault.{InputFault}
use Rattle.trick_input.specs.declared.fault.InputFault.TheVariants as reading
use Rattle.trick_lang.specs.SDefineOf.{sdefine_of}
use Rattle.trick_lang.specs.declared.program.Program.{Program}
use Rattle.trick_lang.specs.declared.syntax.definition.SDefine.{SDefine}
use Rattle.trick_plan_lines.specs.declared.fault.JoinFault.{JoinFault}
use Rattle.trick_plan_lines.specs.declared.fault.JoinFault.TheVariants as join
use Rattle.trick_model.specs.Acceptance.{IsAccepted}
use Rattle.trick_model.specs.PlanOf.{plan_of}
use Rattle.trick_model.specs.declared.plan.Plan.{Plan}
use Rattle.trick_plan.specs.Plan.{IsPlan}
use Rattle.trick_race.specs.Refusals.{HoldsBefore, NamesFirst}
use Rattle.trick_race.specs.declared.fault.PlanFault.{PlanFault}
use Rattle.trick_race.specs.declared.fault.PlanFault.TheVariants as race
use Rattle.trick_top_refusals.specs.Check.{check_line}
use Rattle.trick_top_refusals.specs.Input.{input_line}
use Rattle.trick_top_refusals.specs.Join.{join_line}
use Rattle.trick_top_refusals.specs.Plan.{plan_line}
use Rattle.trick_top_refusals.specs.SDefine.{s_define_line}
use Rattle.trick_sdef.specs.Answers.{IsSDefine}
use Rattle.trick_sdef.specs.declared.fault.SdefFault.{SdefFault}
use Rattle.trick_sdef.specs.declared.fault.SdefFault.TheVariants as sdef

-- ---- the S_define

-- The S_define has a program: it is read as a tree that names the program.
pub record HasProgram (s_define : List ℕ) (program : Program) : Type 0 where
  pub tree : SDefine
  pub read : IsSDefine s_define (Ok tree)
  pub named : IsNamed (sdefine_of tree) program

-- Its reader refuses the S_define, by this line.
pub record IsUnread (s_define line : List ℕ) : Type 0 where
  pub fault : SdefFault
  pub refused : IsSDefine s_define (Err fault)
  pub known : fault ≢ sdef.OutOfMemory
  pub printed : line ≡ s_define_line fault

-- The S_define is read as a tree that names no program, and is refused by this line.
pub record IsUnnamed (s_define line : List ℕ) : Type 0 where
  pub tree : SDefine
  pub read : IsSDefine s_define (Ok tree)
  pub fault : CheckFault
  pub refused : IsRefused (sdefine_of tree) fault
  pub known : fault ≢ check.OutOfMemory
  pub printed : line ≡ check_line fault

-- ---- the input

-- The input is read as these lines.
pub record HasLines (input : List ℕ) (calls : List Call) : Type 0 where
  pub all : Vec Call Global
  pub read : IsInput input (Ok all)
  pub same : all.items ≡ calls

-- Its reader refuses the input, by this line.
pub record IsInputUnread (input line : List ℕ) : Type 0 where
  pub fault : InputFault
  pub refused : IsInput input (Err fault)
  pub known : fault ≢ reading.OutOfMemory
  pub printed : line ≡ input_line fault

-- ---- both

-- The texts have a plan: the program of the S_define is joined with the lines of the input.
pub record HavePlan (s_define input : List ℕ) (plan : Plan) : Type 0 where
  pub program : Program
  pub calls : List Call
  pub has_program : HasProgram s_define program
  pub has_lines : HasLines input calls
  pub joined : IsPlan program calls (Ok plan)

-- The program and the lines have no plan, and the input is refused by this line.
pub record AreUnjoined (program : Program) (calls : List Call) (line : List ℕ) : Type 0 where
  pub fault : JoinFault
  pub refused : IsPlan program calls (Err fault)
  pub known : fault ≢ join.OutOfMemory
  pub printed : line ≡ join_line fault

-- The plan is not accepted, and is refused by this line.
pub record IsUnaccepted (plan : Plan) (line : List ℕ) : Type 0 where
  pub fault : PlanFault
  pub before : HoldsBefore (plan_of plan) fault
  pub first : NamesFirst (plan_of plan) fault
  pub known : fault ≢ race.OutOfMemory
  pub printed : line ≡ plan_line (plan_of plan) fault

-- ---- what both say

-- The texts are ready to be run by this plan, which is accepted.
pub record IsReady (s_define input : List ℕ) (plan : Plan) : Type 0 where
  pub planned : HavePlan s_define input plan
  pub accepted : IsAccepted (plan_of plan)

-- One of the texts is refused by this line. The first step that refuses decides.
pub data IsTextRefused (s_define input line : List ℕ) : Type 0 where
  at_s_define : IsUnread s_define line → IsTextRefused s_define input line
  at_names : IsUnnamed s_define line → IsTextRefused s_define input line
  at_input : (program : Program) → HasProgram s_define program → IsInputUnread input line
      → IsTextRefused s_define input line
  at_join : (program : Program) (calls : List Call) → HasProgram s_define program → HasLines input calls
      → AreUnjoined program calls line → IsTextRefused s_define input line

-- The texts have a plan, which is refused by this line.
pub record IsPlanRefused (s_define input line : List ℕ) : Type 0 where
  pub plan : Plan
  pub planned : HavePlan s_define input plan
  pub unaccepted : IsUnaccepted plan line
