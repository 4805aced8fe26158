use Rattle.std.proofs.Common.{refl, ◌∙◌}
use Rattle.std.proofs.lemmas.Result.{err_from_is_err_and}
use Rattle.trick_outside.proofs.DoesLemmas.{does_fail, does_none, does_ok}
use Rattle.trick_top_alone.proofs.GeneratedLemmas.{of_objects}
use Rattle.trick_top_alone.proofs.generated.write_texts.Goals as goal

pub returns-in_default-clause-written : goal.returns-in_default-clause-written
returns-in_default-clause-written g c = does_none _ _ _ (g.met.F.Shelf.called_none _) (λ d. cc) (λ f. cc)

pub returns-in_err-write_both-clause-written : goal.returns-in_err-write_both-clause-written
returns-in_err-write_both-clause-written g c =
    let error = err_from_is_err_and c.from_residual.result c.from_residual.ensures.1 in
    does_fail _ _ _ (of_objects c.args.objects _ _ c.in_err-write_both.ensures (c.deref.ensures.value ∙ c.in-Ok.ensures.definition) (c.deref-2.ensures.value ∙ c.in-Ok.ensures.input)) refl
    error.1 error.2

pub returns-clause-written : goal.returns-clause-written
returns-clause-written g c =
    does_ok _ (of_objects c.args.objects _ _ c.in_ok-write_both.ensures (c.deref.ensures.value ∙ c.in-Ok.ensures.definition) (c.deref-2.ensures.value ∙ c.in-Ok.ensures.input)) refl
