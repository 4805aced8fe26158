use Rattle.std.proofs.Common.{◌≡◌, [], take}
use Rattle.trick_model.specs.Laws.{is_among}
use Rattle.trick_post_trays.specs.Scratch.{IsWritten, cell_ids}
use Rattle.trick_post_trays.proofs.scratch.clear.Given as goal

-- the first cells are cleared
abbrev pub invariant-loop-cell : goal.invariant-loop-cell
invariant-loop-cell l = record {
  numbers : IsWritten (λ c. is_among c (cell_ids (take l.cell-index l.cells))) [] l.fn.scratch.numbers l.scratch.numbers;
  scalars : l.scratch.scalars ≡ l.fn.scratch.scalars;
}
