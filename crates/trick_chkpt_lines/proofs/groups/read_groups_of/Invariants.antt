use Rattle.std.proofs.Common.{◌≡◌, drop, length}
use Rattle.std.specs.List.{enumerate_from, zip}
use Rattle.trick_chkpt_lines.proofs.Reading.{groups_left}
use Rattle.trick_chkpt_lines.proofs.groups.read_groups_of.Given as goal
use Rattle.trick_chkpt_lines.specs.CheckpointLines.{group_of}
use Rattle.trick_codes.specs.Lines.{each, read_lines}
use Rattle.std.specs.Prelude.{None, false}

abbrev pub invariant-loop-k : goal.invariant-loop-k
invariant-loop-k l = record {
  sizes : length l.on ≡ length l.rows;
  going : groups_left l.plan l.k (drop l.k l.groups) (zip l.on l.rows) l.here
      ≡ read_lines (each (false, None) (group_of l.plan) (enumerate_from 0 l.groups)) l.fn.rest;
}
