use Rattle.std.proofs.Common.{◌∙◌}
use Rattle.trick_top_alone.specs.Sources.{sources_of}
use Rattle.trick_top.proofs.ServeLemmas.{not_ready, not_started}
use Rattle.trick_top.proofs.texts.serve_texts.Goals as goal

pub returns-in-Ok : goal.returns-in-Ok
returns-in-Ok g c = c.serve_shared.ensures c.in-Ok.ensures.ready

pub returns-in-Err : goal.returns-in-Err
returns-in-Err g c =
    not_started (sources_of c.args.given) c.args.shelf.now _ _ _ _ _ _ c.not_begun.ensures.door c.not_begun.ensures.spawner
    (c.not_begun.ensures.told ∙ c.refused.ensures) (not_ready (sources_of c.args.given) c.in-Err.unready c.in-Err.ensures.refused)
