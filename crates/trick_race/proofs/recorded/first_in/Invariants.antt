use Rattle.std.proofs.Common.{ℕ, ◌<◌, get_or}
use Rattle.trick_lang.specs.declared.cells.Cell.{Cell}
use Rattle.trick_race.specs.Reached.{IsOutside}
use Rattle.trick_race.proofs.recorded.first_in.Given as goal

abbrev pub invariant-loop-cell : goal.invariant-loop-cell
invariant-loop-cell l = (i : ℕ) → i < l.cell-index → (d : Cell) → IsOutside l.set (get_or l.cells i d)
