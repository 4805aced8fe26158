use Rattle.std.proofs.Common.{length, ◌-◌, ◌+◌}
use Rattle.trick_queue.proofs.Trees.{IsAtLevel}
use Rattle.trick_queue.proofs.tree.first_by.Given as goal

-- the nodes of this level that are passed are later, and this one is not
abbrev pub invariant-loop-node : goal.invariant-loop-node
invariant-loop-node l = IsAtLevel l.lows l.tics l.tic l.node

abbrev pub decreases-loop-node : goal.decreases-loop-node
decreases-loop-node l = length l.lows + length l.lows - l.node
