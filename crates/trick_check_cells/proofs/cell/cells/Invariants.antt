use Rattle.std.proofs.Common.{◌≡◌, ◌++◌, List, drop}
use Rattle.trick_check_cells.proofs.cell.cells.Given as goal
use Rattle.trick_check_cells.specs.Cells.{objects_cells}
use Rattle.trick_check_cells.specs.Waits.{IsDone}
use Rattle.trick_lang.specs.declared.variable.Variable.{Variable}

-- what is written and what is left are all
abbrev pub invariant-loop-place : goal.invariant-loop-place
invariant-loop-place l = (done : List (List Variable)) → IsDone l.tables.groups l.sizes done → l.cells ++ objects_cells done (drop l.place l.tables.names) ≡ objects_cells done l.tables.names
