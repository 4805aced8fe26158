use Rattle.std.proofs.Common.{◌≡◌, ◌++◌, drop, length, map, take}
use Rattle.trick_lang.specs.declared.cells.Cell.{Cell}
use Rattle.trick_model.specs.State.{number_at}
use Rattle.trick_record.proofs.values.renew.Given as goal

-- the numbers of the first cells stand there
abbrev pub invariant-loop-i : goal.invariant-loop-i
invariant-loop-i g l =
    let now = λ (cell : Cell). number_at (g.M.Cells.numbers l.memory) cell.0 in
    record {
      many : length l.row ≡ length l.cells;
      first : take l.i l.row ++ map now (drop l.i l.cells) ≡ map now l.cells;
    }
