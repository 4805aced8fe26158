-- In a plan a name stands for what it stood for at its line.
use Rattle.std.proofs.Common.{◌≡◌, ◌∙◌, List, sym, ap}
use Rattle.trick_plan_variables.specs.Cells.{KeepsRest}
use Rattle.trick_plan_draft.specs.Drafts.{begun, names_of}
use Rattle.trick_plan_draft.specs.Jobs.{Jobs, jobs_of}
use Rattle.trick_plan_draft.specs.declared.draft.Draft.{Draft}
use Rattle.trick_input.specs.declared.call.Call.{Call}
use Rattle.trick_lang.specs.declared.program.Program.{Program}
use Rattle.trick_plan_lines.proofs.Keeping.{same_jobs}
use Rattle.trick_plan_lines.specs.Deeds.{DeedsStay}
use Rattle.trick_model.proofs.PlanNames.{same_names}
use Rattle.trick_model.specs.Events as model
use Rattle.trick_model.specs.Names.{Names, deed_of}
use Rattle.trick_model.specs.PlanOf.{plan_of}
use Rattle.trick_model.specs.Valid.{names_in}
use Rattle.trick_model.specs.declared.plan.Plan.{Plan}
use Rattle.trick_plan.specs.Plan.{NamesStay}
use Rattle.trick_plan_settings.specs.Settings.{settings_in}

-- over the program with the cells that the lines have declared
pub names_stay : (p q : Program) (calls : List Call) (plan : Plan) (last : Draft) → KeepsRest p q
    → DeedsStay (jobs_of p) (settings_in p.jobs calls) calls (begun p) last
    → names_of (jobs_of q) last ≡ names_in plan.program plan.groups plan.events
    → NamesStay p calls plan
names_stay p q calls plan last rest stay same = λ count d action deed told asked.
    let names : names_of (jobs_of p) last ≡ model.names_of (plan_of plan) =
    ap (λ (jobs : Jobs). names_of jobs last) (sym (same_jobs p q rest)) ∙ (same ∙ same_names plan) in
    ap (λ (names : Names). deed_of names action) (sym names) ∙ stay count d told action deed asked
