use Rattle.std.proofs.Common.{arith}
use Rattle.trick_queue.proofs.Trees.{power_twice}
use Rattle.trick_queue.specs.Tree.{one}
use Rattle.trick_queue.proofs.tree.inner_nodes.Goals as goal

pub loop-nodes-init : goal.loop-nodes-init
loop-nodes-init c = record { power = one; some = omega arith; small = omega arith }

pub loop-nodes-preserved : goal.loop-nodes-preserved
loop-nodes-preserved c = record { power = power_twice c.loop-nodes.nodes c.loop-nodes.invariant.power; some = omega arith; small = omega arith }
