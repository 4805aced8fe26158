use Rattle.trick_top_alone.proofs.GoneLemmas.{found_none}
use Rattle.trick_top_alone.proofs.files.read_if_named.Goals as goal

pub returns-in-None-clause-found : goal.returns-in-None-clause-found
returns-in-None-clause-found g c = rw c.in-None.is (found_none c.args.shelf.now (g.met.F.Shelf.called_none c.args.shelf.now))
