use Rattle.std.proofs.Common.{◌↔◌, IsTrue, List, Bool, length, subst}
use Rattle.std.proofs.lemmas.Result.{IfOk-weaker}
use Rattle.trick_model.specs.PlanOf.{plan_of}
use Rattle.trick_race.proofs.FixedPoint.{reach_is}
use Rattle.trick_race.specs.Accesses.{IsWrittenBy, has}
use Rattle.trick_race.proofs.reach.reach.Goals as goal

pub returns : goal.returns
returns c =
    let p = plan_of c.args.plan.now in
    IfOk-weaker c.written_by.result _ _ (λ (set : List Bool) told cell.
    reach_is (length c.args.plan.now.program.cells) p c.args.accesses.now c.in_ok-jobs.jobs.items cell
    (has set cell) c.requires c.in_ok-jobs.ensures
    (subst (λ jobs. IsTrue (has set cell) ↔ IsWrittenBy c.args.accesses.now jobs cell) c.deref.ensures.value
    (told cell))) c.written_by.ensures
