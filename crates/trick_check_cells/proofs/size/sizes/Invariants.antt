use Rattle.std.proofs.Common.{◌≡◌, take, []}
use Rattle.trick_check_cells.proofs.size.sizes.Given as goal
use Rattle.trick_check_cells.specs.Cells.{group_cells}
use Rattle.trick_check_cells.specs.Counts.{counts}

abbrev pub invariant-loop-group : goal.invariant-loop-group
invariant-loop-group l = l.sizes.items ≡ counts (group_cells (take l.group-index l.groups) [])
