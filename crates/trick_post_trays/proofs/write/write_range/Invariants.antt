use Rattle.std.proofs.Common.{◌≡◌}
use Rattle.trick_post_trays.proofs.Writes.{covers_below}
use Rattle.trick_post_trays.specs.Scratch.{IsWritten}
use Rattle.trick_post_trays.proofs.write.write_range.Given as goal

-- the cells of the range below this one are written
abbrev pub invariant-loop-cell : goal.invariant-loop-cell
invariant-loop-cell g l = record {
  numbers : IsWritten (covers_below l.fn.range l.cell) l.from.numbers (g.M.Cells.numbers l.fn.into) (g.M.Cells.numbers l.into);
  scalars : g.M.Cells.scalars l.into ≡ g.M.Cells.scalars l.fn.into;
}
