use Rattle.std.proofs.Common.{arith}
use Rattle.trick_chkpt_printer.proofs.Cut.{cells_end}
use Rattle.trick_chkpt_printer.proofs.cells.push_cells.Goals as goal
use Rattle.trick_lang.specs.declared.cells.Cell.{Cell}
use Rattle.trick_model.specs.NameAt.{cell_name}

pub returns : goal.returns
returns c =
    cells_end (λ (cell : Cell). cell_name c.args.program.now.cells cell.0) c.args.front.now
    c.args.cells.now c.args.numbers.now c.loop-i.i c.loop-i.text.items _ (omega arith) c.loop-i.invariant
