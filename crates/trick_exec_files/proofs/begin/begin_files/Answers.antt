use Rattle.std.proofs.Common.{refl}
use Rattle.std.proofs.lemmas.Result.{err_from_is_err_and}
use Rattle.std.specs.Prelude.{flat_map}
use Rattle.trick_exec_files.proofs.begin.begin_files.Goals as goal
use Rattle.trick_model.specs.PlanOf.{plan_of}
use Rattle.trick_model.specs.Records.{header, log_name}
use Rattle.trick_model.specs.Turn.{file_writes}
use Rattle.trick_model.specs.declared.group.Group.{Group}
use Rattle.trick_outside.proofs.DoesLemmas.{does_err, does_then}
use Rattle.trick_exec_tic.specs.Steps.{steps_of}

pub returns-in_err-begin_journal : goal.returns-in_err-begin_journal
returns-in_err-begin_journal g c =
    let error = err_from_is_err_and c.from_residual.result c.from_residual.ensures.1 in
    does_err _ _ _ (steps_of (flat_map (λ (group : Group). file_writes (log_name group) (header (plan_of c.args.plan.now) group)) c.args.plan.now.groups))
    c.in_err-begin_journal.ensures refl error.1 error.2

pub returns : goal.returns
returns g c = does_then g.met.F.Shelf.called_join c.in_ok-begin_journal.ensures refl c.begin_logs.ensures
