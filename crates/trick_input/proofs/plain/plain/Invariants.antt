use Rattle.std.proofs.Common.{◌≡◌, ◌≤◌, ◌++◌, length}
use Rattle.trick_input.specs.Lexemes.{plain}
use Rattle.trick_input.specs.Seen.{all_seen}
use Rattle.trick_input.proofs.plain.plain.Given as goal

abbrev pub invariant-loop-rest : goal.invariant-loop-rest
invariant-loop-rest l = record {
  plain : all_seen l.found.items ++ plain l.cut (all_seen l.rest) ≡ plain l.cut (all_seen l.fn.line);
  within : length l.rest ≤ length l.fn.line;
}

abbrev pub decreases-loop-rest : goal.decreases-loop-rest
decreases-loop-rest l = length l.rest
