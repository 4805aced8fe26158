use Rattle.std.proofs.Common.{◌≡◌, drop, length}
use Rattle.trick_model.specs.Beside.{spread}
use Rattle.trick_model.specs.ValidState.{AreNumbersOf}
use Rattle.trick_post_trays.specs.Scratch.{cell_ids}
use Rattle.trick_post_trays.proofs.scratch.spread.Given as goal

-- what is left of the cells makes of what is there what all make of the beginning
abbrev pub invariant-loop-place : goal.invariant-loop-place
invariant-loop-place l = record {
  numbers : spread (cell_ids (drop l.place l.cells)) (drop l.place l.numbers) l.scratch.numbers
      ≡ spread (cell_ids l.cells) l.numbers l.fn.scratch.numbers;
  right : AreNumbersOf l.scratch.scalars (cell_ids (drop l.place l.cells)) (drop l.place l.numbers);
  scalars : l.scratch.scalars ≡ l.fn.scratch.scalars;
  many : length l.scratch.numbers ≡ length l.fn.scratch.numbers;
}
