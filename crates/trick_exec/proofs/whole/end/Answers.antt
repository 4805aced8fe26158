use Rattle.std.proofs.Common.{Err, ap, refl, subst, sym}
use Rattle.std.proofs.lemmas.Result.{err_from_is_err_and}
use Rattle.std.specs.Prelude.{Result}
use Rattle.trick_exec.proofs.whole.end.Goals as goal
use Rattle.trick_exec.specs.Ended.{Closes}
use Rattle.trick_exec_turn.specs.Worlds.{world_of}
use Rattle.trick_exec.specs.declared.ended.Ended.{Ended as EndedValue}
use Rattle.trick_model.specs.PlanOf.{plan_of}
use Rattle.trick_model.specs.State.{World}
use Rattle.trick_outside.proofs.DoesLemmas.{does_fail, does_ok}
use Rattle.trick_outside.specs.declared.stop.Stop.{Stop}

pub returns-in-Some-clause-closes : goal.returns-in-Some-clause-closes
returns-in-Some-clause-closes g c = (refl, c.ends.ensures.step, c.in-Some.ensures.numbers)

pub returns-in_err-world-clause-closes : goal.returns-in_err-world-clause-closes
returns-in_err-world-clause-closes g c =
    let error = err_from_is_err_and c.from_residual.result c.from_residual.ensures.1 in
    let w : World = world_of g.M.Cells.numbers c.args.world in
    let plain : Result (Unit {0}) Stop = Err error.0 in
    subst (λ (r : Result (EndedValue g.row.M.Denot) Stop). Closes g.F.Shelf g.T.Turns g.M.Cells.numbers (plan_of c.args.plan.now) w c.args.run.now.shelf.now c.close.new.shelf c.args.run.now.turns.now c.ends.new.self r)
    (sym error.1) (does_fail plain _ error.0 c.in_err-world.ensures.does refl refl error.2, c.ends.ensures.step)

pub returns-clause-closes : goal.returns-clause-closes
returns-clause-closes g c =
    let p = plan_of c.args.plan.now in
    let w : World = world_of g.M.Cells.numbers c.args.world in (
      does_ok (tt {0}) c.in_ok-world.ensures.does refl,
      c.ends.ensures.step,
      c.in_default.ensures.numbers,
      λ i. record { state = c.in_ok-world.ensures.shut i; sessions = ap (λ v. v.items) c.in_ok-world.ensures.sessions i },
    )
