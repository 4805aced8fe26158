use Rattle.std.proofs.Common.{◌+◌, length}
use Rattle.trick_race.proofs.Merging.{AreMerged}
use Rattle.trick_race.proofs.ranges.common_cell.Given as goal

abbrev pub invariant-loop-x : goal.invariant-loop-x
invariant-loop-x l = AreMerged l.cells l.fn.xs l.fn.ys l.left l.right

abbrev pub decreases-loop-x : goal.decreases-loop-x
decreases-loop-x l = length l.left + length l.right
