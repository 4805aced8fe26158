use Rattle.std.proofs.Common.{◌≡◌, ◌++◌, drop, map}
use Rattle.std.specs.Prelude.{filter}
use Rattle.trick_chkpt_printer.proofs.thread_scope.cells_of.Given as goal
use Rattle.trick_chkpt_printer.specs.Marks.{is_marked, marked_cells}
use Rattle.trick_lang.specs.declared.cells.Cell.{Cell}
use Rattle.trick_model.specs.Plan.{numbers_from}

abbrev pub invariant-loop-cell : goal.invariant-loop-cell
invariant-loop-cell l =
    map (λ (cell : Cell). cell.0) l.found.items
    ++ filter (is_marked l.marks) (numbers_from l.cell (drop l.cell l.marks))
    ≡ marked_cells l.marks
