use Rattle.trick_top_alone.specs.Sources.{sources_of}
use Rattle.trick_top.proofs.ServeLemmas.{no_first, not_started}
use Rattle.trick_top.proofs.texts.serve_plan.Goals as goal
use Rattle.trick_top.specs.Rows.{begun}

pub serve_from-requires-clause-valid : goal.serve_from-requires-clause-valid
serve_from-requires-clause-valid g c κs within = c.in-Ok.ensures.first.valid

pub serve_from-requires-clause-memory : goal.serve_from-requires-clause-memory
serve_from-requires-clause-memory g c κs within = c.in-Ok.ensures.first.memory

pub returns-in-Ok : goal.returns-in-Ok
returns-in-Ok g c = λ ready. begun ready c.in-Ok.ensures.first.starts c.serve_from.ensures

pub returns-in-Err : goal.returns-in-Err
returns-in-Err g c = λ ready.
    not_started (sources_of c.args.given) c.args.shelf.now _ _ _ _ _ _ c.not_begun.ensures.door c.not_begun.ensures.spawner
    c.not_begun.ensures.told (no_first (sources_of c.args.given) _ _ ready c.in-Err.ensures.none)
