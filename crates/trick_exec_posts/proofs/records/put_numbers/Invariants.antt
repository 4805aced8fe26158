use Rattle.std.proofs.Common.{◌≡◌, ◌++◌, drop, map}
use Rattle.trick_exec_posts.proofs.records.put_numbers.Given as goal
use Rattle.trick_lang.specs.declared.cells.Cell.{Cell}
use Rattle.trick_model.specs.State.{number_at}

-- the numbers of the first cells stand there
abbrev pub invariant-loop-cell : goal.invariant-loop-cell
invariant-loop-cell g l =
    let now = λ (cell : Cell). number_at (g.M.Cells.numbers l.memory) cell.0 in
    l.numbers ++ map now (drop l.cell-index l.cells) ≡ map now l.cells
