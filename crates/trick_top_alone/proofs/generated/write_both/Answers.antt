use Rattle.std.proofs.Common.{refl}
use Rattle.std.proofs.lemmas.Result.{err_from_is_err_and}
use Rattle.std.specs.Prelude.{codes}
use Rattle.trick_model.specs.Turn.{file_writes}
use Rattle.trick_outside.proofs.DoesLemmas.{does_err, does_then}
use Rattle.trick_exec_tic.specs.Steps.{steps_of}
use Rattle.trick_top_alone.proofs.generated.write_both.Goals as goal

pub returns-in_err-write_text : goal.returns-in_err-write_text
returns-in_err-write_text g c =
    let error = err_from_is_err_and c.from_residual.result c.from_residual.ensures.1 in
    does_err _ _ _ (steps_of (file_writes (codes "gen_input.py") c.args.input.now)) c.in_err-write_text.ensures refl error.1 error.2

pub returns : goal.returns
returns g c = does_then g.met.F.Shelf.called_join c.in_ok-write_text.ensures refl c.write_text-2.ensures
