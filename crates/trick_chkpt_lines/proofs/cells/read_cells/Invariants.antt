use Rattle.std.proofs.Common.{◌≡◌, ◌++◌, drop}
use Rattle.std.specs.Prelude.{pos}
use Rattle.trick_chkpt_lines.proofs.cells.read_cells.Given as goal
use Rattle.trick_chkpt_lines.specs.CheckpointLines.{cells_of}
use Rattle.trick_chkpt_lines.specs.Ranges.{full_name, range_at}
use Rattle.trick_codes.proofs.Each.{lines_left}
use Rattle.trick_codes.specs.Lines.{read_lines}
use Rattle.trick_codes.specs.Named.{integer_line}
use Rattle.trick_lang.specs.declared.cells.Cell.{Cell}

abbrev pub invariant-loop-cell : goal.invariant-loop-cell
invariant-loop-cell l =
    lines_left (pos 0) (λ (cell : Cell). integer_line (l.front ++ full_name l.plan cell) (range_at l.plan cell))
    (drop l.cell-index l.cells) l.found l.here
    ≡ read_lines (cells_of l.plan l.front l.cells) l.fn.rest
