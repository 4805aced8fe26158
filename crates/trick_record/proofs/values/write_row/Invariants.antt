use Rattle.std.proofs.Common.{◌≡◌, ◌++◌, ℕ, List, Some, drop, map}
use Rattle.std.specs.Fmt.{signed_decimal}
use Rattle.trick_lang.specs.declared.cells.Cell.{Cell}
use Rattle.trick_model.specs.Records.{fields, row}
use Rattle.trick_model.specs.State.{number_at}
use Rattle.trick_record.specs.Held.{Holds, Rests}
use Rattle.trick_record.proofs.values.write_row.Given as goal

abbrev pub invariant-loop-cell : goal.invariant-loop-cell
invariant-loop-cell g l =
    let now = λ (cell : Cell). number_at (g.M.Cells.numbers l.memory) cell.0 in
    (bytes : List ℕ) → Rests (λ v. Some v.items) l.fn.writer bytes
    → (line : List ℕ) × Holds (λ v. Some v.items) l.writer line
    × (line ++ fields (map signed_decimal (map now (drop l.cell-index l.cells))) ≡ bytes ++ row l.tic (map now l.cells))
