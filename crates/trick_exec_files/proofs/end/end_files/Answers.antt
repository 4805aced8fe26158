use Rattle.std.proofs.Common.{[], ◌∷◌, ◌++◌, refl}
use Rattle.std.proofs.lemmas.Result.{err_from_is_err_and}
use Rattle.std.specs.Prelude.{codes}
use Rattle.trick_base.specs.Files.{Append}
use Rattle.trick_exec_files.proofs.end.end_files.Goals as goal
use Rattle.trick_model.specs.Checkpoint.{faults_text}
use Rattle.trick_model.specs.Files.{journal_name}
use Rattle.trick_model.specs.Journal.{last_line}
use Rattle.trick_model.specs.PlanOf.{plan_of}
use Rattle.trick_model.specs.Turn.{file_writes}
use Rattle.trick_outside.proofs.DoesLemmas.{does_err, does_then}
use Rattle.trick_exec_tic.specs.Steps.{steps_of}

pub returns-in_err-write_final : goal.returns-in_err-write_final
returns-in_err-write_final g c =
    let error = err_from_is_err_and c.from_residual.result c.from_residual.ensures.1 in
    let s = c.args.state.now in
    does_err _ _ _ (steps_of (file_writes (codes "faults.txt") (faults_text (plan_of c.args.plan.now) s.faults) ++ Append journal_name (last_line s.turn) ∷ []))
    c.in_err-write_final.ensures refl error.1 error.2

pub returns-in_err-write_faults : goal.returns-in_err-write_faults
returns-in_err-write_faults g c =
    let error = err_from_is_err_and c.from_residual-in_err-write_faults.result c.from_residual-in_err-write_faults.ensures.1 in
    does_then g.met.F.Shelf.called_join c.in_ok-write_final.ensures refl
    (does_err _ _ _ (steps_of (Append journal_name (last_line c.args.state.now.turn) ∷ [])) c.in_err-write_faults.ensures refl error.1 error.2)

pub returns : goal.returns
returns g c =
    does_then g.met.F.Shelf.called_join c.in_ok-write_final.ensures refl
    (does_then g.met.F.Shelf.called_join c.in_ok-write_faults.ensures refl c.end_journal.ensures)
