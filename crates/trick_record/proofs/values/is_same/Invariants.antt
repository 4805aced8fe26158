use Rattle.std.proofs.Common.{◌≡◌, drop, map}
use Rattle.trick_lang.specs.declared.cells.Cell.{Cell}
use Rattle.trick_model.specs.Records.{same_row}
use Rattle.trick_model.specs.State.{number_at}
use Rattle.trick_record.proofs.values.is_same.Given as goal

abbrev pub invariant-loop-i : goal.invariant-loop-i
invariant-loop-i g l =
    let now = λ (cell : Cell). number_at (g.M.Cells.numbers l.memory) cell.0 in
    same_row (map now (drop l.i l.cells)) (drop l.i l.row) ≡ same_row (map now l.cells) l.row
