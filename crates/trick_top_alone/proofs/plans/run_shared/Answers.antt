use Rattle.trick_top_alone.proofs.ActedLemmas.{acted_no_memory}
use Rattle.trick_top_alone.proofs.plans.run_shared.Goals as goal

pub returns-in-Ok : goal.returns-in-Ok
returns-in-Ok g c = rw c.in-Ok.ensures.ok at c.run_given.ensures

pub returns : goal.returns
returns g c = acted_no_memory c.args.shelf.now c.args.accepted.plan _ _ _ (g.met.F.Shelf.called_none c.args.shelf.now)
