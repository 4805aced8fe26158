use Rattle.std.proofs.Common.{◌≡◌, ◌++◌, ℕ, List, Some, codes, drop, map}
use Rattle.trick_lang.specs.declared.cells.Cell.{Cell}
use Rattle.trick_model.specs.NameAt.{cell_name}
use Rattle.trick_model.specs.Records.{fields}
use Rattle.trick_record.specs.Held.{Holds}
use Rattle.trick_record.proofs.log_header.header_of.Given as goal

abbrev pub invariant-loop-cell : goal.invariant-loop-cell
invariant-loop-cell l =
    let name = λ (cell : Cell). cell_name l.program.cells cell.0 in
    (bytes : List ℕ) × Holds (λ v. Some v.items) l.writer bytes
    × (bytes ++ fields (map name (drop l.cell-index l.cells)) ≡ codes "tic" ++ fields (map name l.cells))
