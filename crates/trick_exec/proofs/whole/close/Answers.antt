use Rattle.std.proofs.Common.{refl, subst}
use Rattle.std.proofs.lemmas.Result.{err_from_is_err_and}
use Rattle.trick_exec.proofs.whole.close.Goals as goal
use Rattle.trick_model.specs.Files.{end_writes}
use Rattle.trick_model.specs.PlanOf.{plan_of}
use Rattle.trick_model.specs.State.{State}
use Rattle.trick_outside.proofs.DoesLemmas.{does_fail}
use Rattle.trick_outside.specs.Does.{Does}
use Rattle.trick_exec_tic.specs.Steps.{steps_of}

pub returns-in_err-end_files-clause-does : goal.returns-in_err-end_files-clause-does
returns-in_err-end_files-clause-does g c =
    let error = err_from_is_err_and c.from_residual.result c.from_residual.ensures.1 in
    subst (λ (s : State). Does g.F.Shelf c.args.shelf.now c.end_files.new.shelf c.from_residual.result (steps_of (end_writes (plan_of c.args.plan.now) s)))
    c.shut.ensures.shut (does_fail c.from_residual.result _ _ c.in_err-end_files.ensures refl error.1 error.2)
