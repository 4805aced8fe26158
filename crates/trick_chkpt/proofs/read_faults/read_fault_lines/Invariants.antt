use Rattle.std.proofs.Common.{◌≡◌, ◌-◌, length}
use Rattle.trick_chkpt.proofs.read_faults.read_fault_lines.Given as goal
use Rattle.trick_chkpt_lines.specs.Faults.{fault_line, no_fault}
use Rattle.trick_codes.proofs.Each.{numbered_left}
use Rattle.trick_codes.specs.Gives.{bytes_of}
use Rattle.trick_codes.specs.Lines.{numbered, read_lines}

abbrev pub invariant-loop-index : goal.invariant-loop-index
invariant-loop-index l = record {
  count : l.faults.count ≡ l.index;
  size : length l.faults.first ≡ l.index;
  going : numbered_left no_fault (fault_line (bytes_of l.words)) l.index (l.keep - l.index) l.faults.first l.here
      ≡ read_lines (numbered no_fault (fault_line (bytes_of l.words)) 0 l.keep) l.fn.rest;
}
