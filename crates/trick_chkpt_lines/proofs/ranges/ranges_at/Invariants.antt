use Rattle.std.proofs.Common.{◌≡◌, take}
use Rattle.trick_chkpt_lines.proofs.ranges.ranges_at.Given as goal
use Rattle.trick_chkpt_lines.specs.Ranges.{ranges_at}

abbrev pub invariant-loop-cell : goal.invariant-loop-cell
invariant-loop-cell l = l.found.items ≡ ranges_at l.plan (take l.cell-index l.cells)
