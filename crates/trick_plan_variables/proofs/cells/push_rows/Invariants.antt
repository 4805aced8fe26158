use Rattle.std.proofs.Common.{◌≡◌, ◌++◌}
use Rattle.trick_plan_variables.proofs.cells.push_rows.Given as goal
use Rattle.trick_plan_variables.specs.Cells.{cells_named, row_elements}

abbrev pub invariant-loop-index : goal.invariant-loop-index
invariant-loop-index l = l.cells.items ≡ l.initial.cells.items ++ cells_named l.scalar (row_elements l.name l.index l.columns)
