use Rattle.std.proofs.Common.{◌≡◌, take}
use Rattle.trick_exec_alone.proofs.sum.sum_of.Given as goal
use Rattle.trick_exec_alone.specs.Sum.{wrapped_sum}

abbrev pub invariant-loop-cell : goal.invariant-loop-cell
invariant-loop-cell g l = l.sum ≡ wrapped_sum (take l.cell (g.M.Cells.numbers l.memory))
