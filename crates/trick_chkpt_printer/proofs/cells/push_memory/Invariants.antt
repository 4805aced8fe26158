use Rattle.std.proofs.Common.{◌≡◌, ◌++◌, [], drop}
use Rattle.trick_chkpt_printer.proofs.cells.push_memory.Given as goal
use Rattle.trick_model.specs.Checkpoint.{cell_lines}
use Rattle.trick_model.specs.Valid.{cell_names}

abbrev pub invariant-loop-i : goal.invariant-loop-i
invariant-loop-i g l =
    l.text.items ++ cell_lines [] (cell_names (drop l.i l.variables)) (drop l.i (g.M.Cells.numbers l.memory))
    ≡ l.fn.text.items ++ cell_lines [] (cell_names l.variables) (g.M.Cells.numbers l.memory)
