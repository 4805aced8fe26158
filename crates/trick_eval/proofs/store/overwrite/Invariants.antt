use Rattle.std.proofs.Common.{◌≡◌, drop}
use Rattle.trick_eval.proofs.Overwrite.{IsOver}
use Rattle.trick_eval.proofs.store.overwrite.Given as goal

abbrev pub invariant-loop-cell : goal.invariant-loop-cell
invariant-loop-cell g l = record {
  over : IsOver l.working.stored (g.M.Cells.numbers l.fn.into) (g.M.Cells.numbers l.into) (drop l.cell-index l.cell-items);
  scalars : g.M.Cells.scalars l.into ≡ g.M.Cells.scalars l.fn.into;
}
