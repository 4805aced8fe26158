use Rattle.std.proofs.Common.{ap, subst, ◌∙◌}
use Rattle.std.specs.Prelude.{IfSome}
use Rattle.trick_model.proofs.PlanNames.{same_names}
use Rattle.trick_model.specs.Names.{Names, deed_of}
use Rattle.trick_model.specs.Valid.{IsDeedAmong}
use Rattle.trick_plan_deeds.proofs.ask.deed_in_plan.Goals as goal

pub returns-clause-deed : goal.returns-clause-deed
returns-clause-deed c =
    let found = rw (c.as_slice-groups.ensures, c.as_slice-events.ensures) at c.deed_of.ensures.deed in
    found ∙ ap (λ (names : Names). deed_of names c.args.action.now) (same_names c.args.plan.now)

pub returns-clause-there : goal.returns-clause-there
returns-clause-there c =
    let there = rw (c.as_slice-groups.ensures, c.as_slice-events.ensures) at c.deed_of.ensures.there in
    subst (λ (names : Names). IfSome c.deed_of.result (IsDeedAmong names)) (same_names c.args.plan.now) there
