use Rattle.std.proofs.Common.{◌≡◌, length, take}
use Rattle.std.specs.Prelude.{map, vec_capacity}
use Rattle.trick_model.specs.State.{number_at}
use Rattle.trick_model.specs.ValidState.{AreNumbersOf}
use Rattle.trick_post_trays.specs.Scratch.{cell_ids}
use Rattle.trick_post_trays.proofs.scratch.gather.Given as goal

-- the numbers of the first cells are read
abbrev pub invariant-loop-cell : goal.invariant-loop-cell
invariant-loop-cell l = record {
  numbers : l.numbers.items ≡ map (number_at l.scratch.numbers) (cell_ids (take l.cell-index l.cells));
  right : AreNumbersOf l.scratch.scalars (cell_ids (take l.cell-index l.cells)) l.numbers.items;
  made : length l.numbers.items ≡ l.cell-index;
  room : vec_capacity l.numbers ≡ vec_capacity l.fn.numbers;
}
