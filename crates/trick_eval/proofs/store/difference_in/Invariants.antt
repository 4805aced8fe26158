use Rattle.trick_eval.proofs.store.difference_in.Given as goal
use Rattle.trick_eval.specs.Bench.{SameWithin}

abbrev pub invariant-loop-cell : goal.invariant-loop-cell
invariant-loop-cell g l = SameWithin l.fn.range l.cell (g.M.Cells.numbers l.from) l.inputs
