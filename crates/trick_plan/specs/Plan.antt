-- What a program and the lines of an input join to.
use Rattle.std.specs.Prelude.{◌≡◌, ℕ, List, take, Some, Result, Ok, Err}
use Rattle.trick_plan_variables.specs.Cells.{KeepsRest}
use Rattle.trick_plan_draft.specs.Drafts.{begun, names_of}
use Rattle.trick_plan_draft.specs.Jobs.{jobs_of}
use Rattle.trick_plan_draft.specs.Kept.{Mirrors}
use Rattle.trick_plan_draft.specs.declared.draft.Draft.{Draft}
use Rattle.trick_plan_ending.specs.Ending.{AreParts, parts_of}
use Rattle.trick_input.specs.declared.call.Call.{Call}
use Rattle.trick_lang.specs.declared.program.Program.{Program}
use Rattle.trick_plan_lines.specs.Drafted.{Answers, Drafted}
use Rattle.trick_plan_lines.specs.declared.fault.JoinFault.{JoinFault}
use Rattle.trick_model.specs.Events as model
use Rattle.trick_model.specs.Names.{deed_of}
use Rattle.trick_model.specs.PlanOf.{plan_of}
use Rattle.trick_model.specs.declared.action.Action.{Action}
use Rattle.trick_model.specs.declared.deed.Deed.{Deed}
use Rattle.trick_model.specs.declared.plan.Plan.{Plan}
use Rattle.trick_plan_settings.specs.Settings.{settings_in}

-- The lines answer this, from the draft before the first line on.
abbrev pub AreAnswered : Program → List Call → Result Draft JoinFault → Type 0
AreAnswered p calls answer = Drafted (jobs_of p) (settings_in p.jobs calls) calls (begun p) answer

-- What an action asks for after some first lines it asks for among the names of the plan, too: in the plan a name
-- stands for what it stood for at its line.
abbrev pub NamesStay : Program → List Call → Plan → Type 0
NamesStay p calls plan =
    (count : ℕ) (d : Draft) (action : Action) (deed : Deed)
    → Drafted (jobs_of p) (settings_in p.jobs calls) (take count calls) (begun p) (Ok d)
    → deed_of (names_of (jobs_of p) d) action ≡ Some deed
    → deed_of (model.names_of (plan_of plan)) action ≡ Some deed

-- The plan has the program, with the cells that the draft knows, and what the draft and the settings say.
pub record HasDraft (p : Program) (calls : List Call) (plan : Plan) (d : Draft) : Type 0 where
  pub rest : KeepsRest p plan.program
  pub cells : Mirrors plan.program d
  pub parts : AreParts d (settings_in p.jobs calls) (parts_of plan)
  pub names : NamesStay p calls plan

-- A program and the lines of an input join to this: the plan that has the draft after the last line, or the
-- first refusal. A want of memory may come at any time.
abbrev pub IsPlan : Program → List Call → Result Plan JoinFault → Type 0
IsPlan p calls (Ok plan) = (d : Draft) × AreAnswered p calls (Ok d) × HasDraft p calls plan d
IsPlan p calls (Err refused) = Answers (AreAnswered p calls) (Err refused)
