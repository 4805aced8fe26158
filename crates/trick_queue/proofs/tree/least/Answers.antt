use Rattle.std.proofs.Common.{sym, subst}
use Rattle.trick_queue.proofs.Trees.{root_least}
use Rattle.trick_queue.specs.Tree.{IsLeast}
use Rattle.trick_queue.proofs.tree.least.Goals as goal

pub returns : goal.returns
returns c = subst (IsLeast c.args.tics.now) (sym c.low.ensures) (root_least c.args.lows.now c.args.tics.now c.requires)
