use Rattle.std.proofs.Common.{Err, ap, refl, ◌∙◌}
use Rattle.trick_top_alone.proofs.GeneratedLemmas.{gone_run, gone_short, gone_unwritten}
use Rattle.trick_top_alone.proofs.generated.run_generated.Goals as goal

pub returns-in-Ok : goal.returns-in-Ok
returns-in-Ok g c =
    gone_run c.args.objects c.in-Ok.ensures.written _ _ _ _ g.met.F.Shelf.called_join refl (c.deref.ensures.value ∙ c.in-Ok.ensures.definition)
    (c.deref-in-Ok.ensures.value ∙ c.in-Ok.ensures.input) c.perform_on-verdict.ensures c.with_objects.ensures

pub returns-in-Err-Shelf : goal.returns-in-Err-Shelf
returns-in-Err-Shelf g c = gone_unwritten c.args.objects c.in-Err-Shelf.ensures.written (ap Err c.in-Err-Shelf.field-0-is)

pub returns-in-Err-Memory : goal.returns-in-Err-Memory
returns-in-Err-Memory g c = gone_short c.args.objects c.in-Err-Memory.ensures.written _ refl c.in-Err-Memory.field-0-is
