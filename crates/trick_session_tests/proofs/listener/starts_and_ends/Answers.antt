use Rattle.std.proofs.Common.{subst, sym}
use Rattle.trick_model.specs.PlanOf.{plan_of}
use Rattle.trick_model.specs.ValidState.{IsStateOf}
use Rattle.trick_session_tests.proofs.listener.starts_and_ends.Goals as goal

pub comes_to_end-requires-clause-valid : goal.comes_to_end-requires-clause-valid
comes_to_end-requires-clause-valid g c =
    let p = plan_of c.args.accepted.now.plan in
    subst (IsStateOf p) (sym c.in_ok-state.ensures.started) (c.runs_start_valid.ensures.start p (c.plans_are_sound.ensures c.args.accepted.now.plan))
