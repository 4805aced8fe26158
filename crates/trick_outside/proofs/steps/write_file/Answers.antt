use Rattle.std.proofs.Common.{◌∷◌, [], refl}
use Rattle.std.proofs.lemmas.Result.{err_from_is_err_and}
use Rattle.trick_outside.proofs.DoesLemmas.{does_err, does_then}
use Rattle.trick_outside.proofs.steps.write_file.Goals as goal

pub returns-in_err-create : goal.returns-in_err-create
returns-in_err-create g c =
    let p = err_from_is_err_and c.from_residual.result c.from_residual.ensures.1 in
    does_err _ _ _ (_ ∷ []) c.in_err-create.ensures refl p.1 p.2

pub returns-in_err-append : goal.returns-in_err-append
returns-in_err-append g c =
    let p = err_from_is_err_and c.from_residual-in_err-append.result c.from_residual-in_err-append.ensures.1 in
    rw (p.1, p.2) (does_then g.met.F.Shelf.called_join c.in_ok-create.ensures refl c.in_err-append.ensures)

pub returns : goal.returns
returns g c = does_then g.met.F.Shelf.called_join c.in_ok-create.ensures refl c.in_ok-append.ensures
