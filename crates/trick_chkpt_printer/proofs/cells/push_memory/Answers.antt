use Rattle.std.proofs.Common.{arith, []}
use Rattle.trick_chkpt_printer.proofs.Cut.{cells_end}
use Rattle.trick_chkpt_printer.proofs.cells.push_memory.Goals as goal
use Rattle.trick_lang.specs.declared.variable.Variable.{Variable}

pub returns : goal.returns
returns g c =
    cells_end (λ (v : Variable). v.name) [] c.args.variables.now (g.M.Cells.numbers c.args.memory.now)
    c.loop-i.i c.loop-i.text.items _ (omega (arith, c.len.ensures.numbers)) c.loop-i.invariant
