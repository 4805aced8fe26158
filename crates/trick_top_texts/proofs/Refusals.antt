-- A refusal of a step is one of both texts, by its printed line.
use Rattle.std.proofs.Common.{◌≡◌, ◌∙◌, ℕ, List, Result, Ok, Err, IfOk}
use Rattle.std.proofs.lemmas.Result.{IfOk-weaker}
use Rattle.trick_check.specs.Refused.{IsRefused}
use Rattle.trick_check.specs.declared.fault.CheckFault.{CheckFault}
use Rattle.trick_check.specs.declared.fault.CheckFault.TheVariants as check
use Rattle.trick_input.specs.Answers.{IsInput}
use Rattle.trick_input.specs.declared.call.Call.{Call}
use Rattle.trick_input.specs.declared.fault.InputFault.{InputFault}
use Rattle.trick_input.specs.declared.fault.InputFault.TheVariants as reading
use Rattle.trick_lang.specs.SDefineOf.{sdefine_of}
use Rattle.trick_lang.specs.declared.program.Program.{Program}
use Rattle.trick_lang.specs.declared.syntax.definition.SDefine.{SDefine}
use Rattle.trick_plan_lines.specs.declared.fault.JoinFault.{JoinFault}
use Rattle.trick_plan_lines.specs.declared.fault.JoinFault.TheVariants as join
use Rattle.trick_model.specs.PlanOf.{plan_of}
use Rattle.trick_model.specs.declared.plan.Plan.{Plan}
use Rattle.trick_plan.specs.Plan.{IsPlan}
use Rattle.trick_race.specs.Refusals.{HoldsBefore, NamesFirst}
use Rattle.trick_race.specs.declared.fault.PlanFault.{PlanFault}
use Rattle.trick_race.specs.declared.fault.PlanFault.TheVariants as race
use Rattle.trick_top_texts.specs.Texts.{HasLines, HasProgram, HavePlan, IsPlanRefused, IsTextRefused}
use Rattle.trick_top_texts.specs.Texts.{at_input, at_join, at_names, at_s_define}
use Rattle.trick_top_refusals.specs.Check.{check_line}
use Rattle.trick_top_refusals.specs.Input.{input_line}
use Rattle.trick_top_refusals.specs.Join.{join_line}
use Rattle.trick_top_refusals.specs.Plan.{plan_line}
use Rattle.trick_top_refusals.specs.SDefine.{s_define_line}
use Rattle.trick_sdef.specs.Answers.{IsSDefine}
use Rattle.trick_sdef.specs.declared.fault.SdefFault.{SdefFault}
use Rattle.trick_sdef.specs.declared.fault.SdefFault.TheVariants as sdef

-- the S_define is refused by its reader
pub s_define_refused : (s_define input : List ℕ) (fault : SdefFault) → IsSDefine s_define (Err fault)
    → (fault ≡ sdef.OutOfMemory → ⊥)
    → (line : List ℕ) → line ≡ s_define_line fault → IsTextRefused s_define input line
s_define_refused s_define input fault refused known line printed =
    at_s_define (record { fault = fault; refused = refused; known = known; printed = printed })

-- the names of the S_define are refused
pub names_refused : (s_define input : List ℕ) (tree : SDefine) → IsSDefine s_define (Ok tree)
    → (fault : CheckFault) → IsRefused (sdefine_of tree) fault → (fault ≡ check.OutOfMemory → ⊥)
    → (line : List ℕ) → line ≡ check_line fault → IsTextRefused s_define input line
names_refused s_define input tree read fault refused known line printed = at_names (record {
  tree = tree;
  read = read;
  fault = fault;
  refused = refused;
  known = known;
  printed = printed;
})

-- the input is refused by its reader
pub input_refused : (s_define input : List ℕ) (program : Program) → HasProgram s_define program
    → (fault : InputFault) → IsInput input (Err fault) → (fault ≡ reading.OutOfMemory → ⊥)
    → (line : List ℕ) → line ≡ input_line fault → IsTextRefused s_define input line
input_refused s_define input program has fault refused known line printed =
    at_input program has (record { fault = fault; refused = refused; known = known; printed = printed })

-- the program and the lines have no plan
pub join_refused : (s_define input : List ℕ) (program : Program) (calls : List Call)
    → HasProgram s_define program → HasLines input calls
    → (fault : JoinFault) → IsPlan program calls (Err fault) → (fault ≡ join.OutOfMemory → ⊥)
    → (line : List ℕ) → line ≡ join_line fault → IsTextRefused s_define input line
join_refused s_define input program calls has lines fault refused known line printed =
    at_join program calls has lines
    (record { fault = fault; refused = refused; known = known; printed = printed })

-- the plan is refused
pub plan_refused : (s_define input : List ℕ) (plan : Plan) → HavePlan s_define input plan
    → (fault : PlanFault) → HoldsBefore (plan_of plan) fault → NamesFirst (plan_of plan) fault
    → (fault ≡ race.OutOfMemory → ⊥)
    → (line : List ℕ) → line ≡ plan_line (plan_of plan) fault → IsPlanRefused s_define input line
plan_refused s_define input plan planned fault before first known line printed = record {
  plan = plan;
  planned = planned;
  unaccepted = record { fault = fault; before = before; first = first; known = known; printed = printed };
}

-- the same lines by another list
pub same_lines : (input : List ℕ) (calls others : List Call) → calls ≡ others → HasLines input calls
    → HasLines input others
same_lines input calls others same lines =
    record { all = lines.all; read = lines.read; same = lines.same ∙ same }

-- the plan of the program and the lines is the plan of both texts
pub planned : (s_define input : List ℕ) (program : Program) (calls : List Call) → HasProgram s_define program
    → HasLines input calls → {E : Type 0} → (answer : Result Plan E)
    → IfOk answer (λ plan. IsPlan program calls (Ok plan)) → IfOk answer (HavePlan s_define input)
planned s_define input program calls has lines answer =
    IfOk-weaker answer (λ plan. IsPlan program calls (Ok plan)) (HavePlan s_define input)
    (λ plan joined. record {
      program = program;
      calls = calls;
      has_program = has;
      has_lines = lines;
      joined = joined;
    })
