use Rattle.std.proofs.Common.{◌≡◌, drop, take, length}
use Rattle.std.specs.Prelude.{pos}
use Rattle.trick_codes.proofs.Each.{codes_left}
use Rattle.trick_codes.proofs.line.row_numbers.Given as goal
use Rattle.trick_codes.specs.Code.{read}
use Rattle.trick_codes.specs.Named.{each_code, row_number}

abbrev pub invariant-loop-i : goal.invariant-loop-i
invariant-loop-i l = record {
  size : length l.into ≡ length l.ranges;
  going : codes_left (pos 0) row_number (drop l.i l.ranges) (take l.i l.into) l.here ≡ read (each_code (pos 0) row_number l.ranges) l.fn.rest;
}
