use Rattle.trick_lang.proofs.Lists.{scalar_in, scalar_past}
use Rattle.trick_eval.proofs.machine.scalar_of.Goals as goal

pub returns-then-cell-cells : goal.returns-then-cell-cells
returns-then-cell-cells c = scalar_in c.args.cells.now c.args.cell c.index-cells-cell.result c.if-cell-cells.true

pub returns-else-cell-cells : goal.returns-else-cell-cells
returns-else-cell-cells c = scalar_past c.args.cells.now c.args.cell c.if-cell-cells.false
