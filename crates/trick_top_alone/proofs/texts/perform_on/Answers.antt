use Rattle.trick_top_alone.proofs.GoneLemmas.{performed_acted, performed_unready}
use Rattle.trick_top_alone.proofs.texts.perform_on.Goals as goal
use Rattle.trick_top_alone.specs.Sources.{sources_of}
use Rattle.trick_top_alone.specs.Words.{aim_of_task}

pub returns-in-Ok : goal.returns-in-Ok
returns-in-Ok g c = performed_acted (aim_of_task c.args.task.now) (sources_of c.args.given) _ c.in-Ok.ensures.ready c.act.ensures

pub returns-in-Err : goal.returns-in-Err
returns-in-Err g c =
    performed_unready c.args.shelf.now (aim_of_task c.args.task.now) (sources_of c.args.given) _ c.in-Err.unready (g.met.F.Shelf.called_none c.args.shelf.now)
    c.refused.ensures c.in-Err.ensures.refused
