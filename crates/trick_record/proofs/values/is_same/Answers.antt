use Rattle.std.proofs.Common.{arith, map, sym}
use Rattle.std.proofs.lemmas.List.{length-map}
use Rattle.trick_lang.specs.declared.cells.Cell.{Cell}
use Rattle.trick_model.specs.State.{number_at}
use Rattle.trick_record.proofs.Same.{differ}
use Rattle.trick_record.proofs.values.is_same.Goals as goal

pub returns-then-cells-row : goal.returns-then-cells-row
returns-then-cells-row g c =
    let now = λ (cell : Cell). number_at (g.M.Cells.numbers c.args.memory.now) cell.0 in
    sym (differ (map now c.args.cells.now) c.args.row.now
    (λ same. omega (arith, c.if-cells-row.true, length-map c.args.cells.now now, same)))
