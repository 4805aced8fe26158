-- Laws of drafts.
use Rattle.std.specs.Prelude.{◌≡◌, List, Result}
use Rattle.trick_plan_draft.specs.Jobs.{Jobs}
use Rattle.trick_plan_draft.specs.declared.draft.Draft.{Draft}
use Rattle.trick_input.specs.declared.call.Call.{Call}
use Rattle.trick_plan_lines.specs.Drafted.{Drafted}
use Rattle.trick_plan_lines.specs.declared.fault.JoinFault.{JoinFault}
use Rattle.trick_plan_settings.specs.declared.settings.Settings.{Settings}

-- lines answer one thing
abbrev pub AnswersOne : Type 0
AnswersOne =
    (jobs : Jobs) (settings : Settings) (calls : List Call) (d : Draft) (a b : Result Draft JoinFault)
    → Drafted jobs settings calls d a
    → Drafted jobs settings calls d b
    → a ≡ b
