use Rattle.std.proofs.Common.{◌≡◌, ◌++◌, drop, map}
use Rattle.trick_chkpt_printer.proofs.cells.push_cells.Given as goal
use Rattle.trick_lang.specs.declared.cells.Cell.{Cell}
use Rattle.trick_model.specs.Checkpoint.{cell_lines}
use Rattle.trick_model.specs.NameAt.{cell_name}

abbrev pub invariant-loop-i : goal.invariant-loop-i
invariant-loop-i l =
    let names = map (λ (cell : Cell). cell_name l.program.cells cell.0) in
    l.text.items ++ cell_lines l.front (names (drop l.i l.cells)) (drop l.i l.numbers)
    ≡ l.fn.text.items ++ cell_lines l.front (names l.cells) l.numbers
