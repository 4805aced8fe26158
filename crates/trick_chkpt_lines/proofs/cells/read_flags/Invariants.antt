use Rattle.std.proofs.Common.{◌≡◌, ◌-◌, false}
use Rattle.trick_chkpt_lines.proofs.cells.read_flags.Given as goal
use Rattle.trick_chkpt_lines.specs.CheckpointLines.{flag_line, flags_of}
use Rattle.trick_codes.proofs.Each.{numbered_left}
use Rattle.trick_codes.specs.Lines.{read_lines}
use Rattle.trick_codes.specs.Named.{indexed}

abbrev pub invariant-loop-index : goal.invariant-loop-index
invariant-loop-index l =
    numbered_left false (λ k. flag_line (indexed l.stem k)) l.index (l.count - l.index) l.on l.here
    ≡ read_lines (flags_of l.stem l.count) l.fn.rest
