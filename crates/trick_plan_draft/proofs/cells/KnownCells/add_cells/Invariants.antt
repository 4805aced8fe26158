use Rattle.std.proofs.Common.{◌≡◌, ◌+◌, ◌≤◌, drop, length}
use Rattle.trick_plan_draft.specs.Cells.{with_cells}
use Rattle.trick_plan_draft.proofs.cells.KnownCells.add_cells.Given as goal

-- the cells that are left are still to be known, and there is room for them
abbrev pub invariant-loop-cell : goal.invariant-loop-cell
invariant-loop-cell l = record {
  known : with_cells (drop l.cell-index l.cells) l.self ≡ with_cells l.cells l.fn.self;
  room : length l.self.scalars + length (drop l.cell-index l.cells) ≤ 65536;
}
