use Rattle.std.proofs.Common.{◌∙◌, ap}
use Rattle.std.proofs.lemmas.Result.{err_from_is_err_and}
use Rattle.std.specs.Prelude.{is_some}
use Rattle.trick_top_alone.proofs.GoneLemmas.{found_all, no_checkpoint, no_input, no_journal, no_s_define, not_found_handed}
use Rattle.trick_top_alone.proofs.files.read_named.Goals as goal

pub returns-in_err-s_define-clause-not_found : goal.returns-in_err-s_define-clause-not_found
returns-in_err-s_define-clause-not_found g c =
    let error = err_from_is_err_and c.from_residual.result c.from_residual.ensures.1 in
    not_found_handed c.from_residual.result _ _ error.1 error.2 (no_s_define g.met.F.Shelf.called_join c.args.about.now c.in_err-s_define.ensures.not_found)

pub returns-in_err-input-clause-not_found : goal.returns-in_err-input-clause-not_found
returns-in_err-input-clause-not_found g c =
    let error = err_from_is_err_and c.from_residual-in_err-input.result c.from_residual-in_err-input.ensures.1 in
    not_found_handed c.from_residual-in_err-input.result _ _ error.1 error.2
    (no_input g.met.F.Shelf.called_join c.args.about.now c.in_ok-s_define.ensures.found c.in_err-input.ensures.not_found)

pub returns-in_err-from-clause-not_found : goal.returns-in_err-from-clause-not_found
returns-in_err-from-clause-not_found g c =
    let error = err_from_is_err_and c.from_residual-in_err-from.result c.from_residual-in_err-from.ensures.1 in
    not_found_handed c.from_residual-in_err-from.result _ _ error.1 error.2
    (no_checkpoint g.met.F.Shelf.called_join c.args.about.now c.in_ok-s_define.ensures.found c.in_ok-input.ensures.found _ c.as_ref.ensures.value
    c.in_err-from.ensures.not_found)

pub returns-in_err-journal-clause-not_found : goal.returns-in_err-journal-clause-not_found
returns-in_err-journal-clause-not_found g c =
    let error = err_from_is_err_and c.from_residual-in_err-journal.result c.from_residual-in_err-journal.ensures.1 in
    not_found_handed c.from_residual-in_err-journal.result _ _ error.1 error.2
    (no_journal g.met.F.Shelf.called_join c.args.about.now c.in_ok-s_define.ensures.found c.in_ok-input.ensures.found _ c.as_ref.ensures.value
    c.in_ok-from.ensures.found _ c.journal_of.ensures c.in_err-journal.ensures.not_found)

pub returns-clause-found : goal.returns-clause-found
returns-clause-found g c =
    found_all g.met.F.Shelf.called_join c.args.about.now c.in_ok-s_define.ensures.found c.in_ok-input.ensures.found _ c.as_ref.ensures.value
    c.in_ok-from.ensures.found _ c.journal_of.ensures c.in_ok-journal.ensures.found

pub returns-clause-named : goal.returns-clause-named
returns-clause-named g c = record {
  from = c.in_ok-from.ensures.named ∙ ap is_some c.as_ref.ensures.value;
  journal = c.in_ok-journal.ensures.named ∙ ap is_some c.journal_of.ensures;
}
