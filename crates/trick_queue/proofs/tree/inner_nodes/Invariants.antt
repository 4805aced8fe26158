use Rattle.std.proofs.Common.{◌≤◌, ◌-◌}
use Rattle.trick_queue.specs.Tree.{IsPower}
use Rattle.trick_queue.proofs.tree.inner_nodes.Given as goal

abbrev pub invariant-loop-nodes : goal.invariant-loop-nodes
invariant-loop-nodes l = record { power : IsPower l.nodes; some : 1 ≤ l.nodes; small : l.nodes ≤ 131072 }

abbrev pub decreases-loop-nodes : goal.decreases-loop-nodes
decreases-loop-nodes l = l.places - l.nodes
