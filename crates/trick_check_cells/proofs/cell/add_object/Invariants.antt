use Rattle.std.proofs.Common.{◌≡◌, ◌++◌, List}
use Rattle.trick_check_cells.proofs.cell.add_object.Given as goal
use Rattle.trick_check_cells.specs.Cells.{cells_at, under}
use Rattle.trick_check_cells.specs.Waits.{IsDone, stack_cells}
use Rattle.trick_lang.specs.declared.variable.Variable.{Variable}

-- what is written and what waits are all
abbrev pub invariant-loop-turn : goal.invariant-loop-turn
invariant-loop-turn l = (done : List (List Variable)) → IsDone l.groups l.sizes done → l.cells ++ stack_cells l.groups done l.stack.items ≡ l.fn.cells ++ under l.name (cells_at done l.class)
