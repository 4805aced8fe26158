use Rattle.std.proofs.Common.{length, ◌<◌}
use Rattle.trick_queue.specs.Tree.{AreRightBut, IsShaped}
use Rattle.trick_queue.proofs.tree.mend.Given as goal

-- all nodes but this one are right
abbrev pub invariant-loop-node : goal.invariant-loop-node
invariant-loop-node l = record {
  shaped : IsShaped l.lows l.tics;
  inner : l.node < length l.lows;
  right : AreRightBut l.lows l.tics l.node;
}

abbrev pub decreases-loop-node : goal.decreases-loop-node
decreases-loop-node l = l.node
