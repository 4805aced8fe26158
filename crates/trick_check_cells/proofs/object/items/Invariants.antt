use Rattle.std.proofs.Common.{◌≡◌, ◌++◌, drop}
use Rattle.trick_check_cells.proofs.object.items.Given as goal
use Rattle.trick_check_cells.specs.Tables.{item_rows}

-- what is made and what is left are all
abbrev pub invariant-loop-place : goal.invariant-loop-place
invariant-loop-place l = l.items ++ item_rows (drop l.place l.names) ≡ item_rows l.names
