use Rattle.std.proofs.Common.{◌≡◌, All, length}
use Rattle.trick_input.specs.Lines.{calls_of, lines, then_calls}
use Rattle.trick_text.specs.Tokens.{ReadsAsToken}
use Rattle.trick_input.proofs.reader.read_lines.Given as goal

abbrev pub invariant-loop-rest : goal.invariant-loop-rest
invariant-loop-rest l = record {
  read : then_calls l.found.items (calls_of l.text l.fault (lines l.rest)) ≡ calls_of l.text l.fault (lines l.fn.tokens);
  tokens : All (ReadsAsToken l.text) l.rest;
}

abbrev pub decreases-loop-rest : goal.decreases-loop-rest
decreases-loop-rest l = length l.rest
