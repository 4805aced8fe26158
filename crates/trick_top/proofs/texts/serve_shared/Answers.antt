use Rattle.trick_top_alone.specs.Sources.{sources_of}
use Rattle.trick_top.proofs.ServeLemmas.{not_started}
use Rattle.trick_top.proofs.texts.serve_shared.Goals as goal
use Rattle.trick_top.specs.Rows.{no_memory}

pub returns-in-Ok : goal.returns-in-Ok
returns-in-Ok g c = rw c.in-Ok.ensures.ok at c.serve_plan.ensures

pub returns : goal.returns
returns g c = λ ready.
    not_started (sources_of c.args.given) c.args.shelf.now _ _ _ _ _ _ c.not_begun.ensures.door c.not_begun.ensures.spawner
    c.not_begun.ensures.told no_memory
