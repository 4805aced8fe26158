use Rattle.std.proofs.Common.{arith}
use Rattle.trick_model.proofs.NamesThere.{type_past}
use Rattle.trick_model.proofs.names.cell_type_or_long.Goals as goal

pub returns-else-cell-len : goal.returns-else-cell-len
returns-else-cell-len c = type_past c.args.program.now.cells c.args.cell.0 (omega (arith, c.if-cell-len.false, c.len.ensures))
