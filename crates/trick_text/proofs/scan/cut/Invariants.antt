use Rattle.std.proofs.Common.{◌≡◌, ◌+◌, ◌≤◌, length, drop}
use Rattle.trick_text.specs.Tokens.{AreTokens, line_of}
use Rattle.trick_text.proofs.scan.cut.Given as goal

abbrev pub invariant-loop-rest : goal.invariant-loop-rest
invariant-loop-rest l = record {
  short : length l.text ≤ 16777216;
  place : l.at + length l.rest ≡ length l.text;
  here : l.rest ≡ drop l.at l.text;
  lines : l.line ≤ l.at + 1;
  line : l.line ≡ line_of l.text l.at;
  so_far : AreTokens l.style l.text 0 l.tokens.items l.at;
}

abbrev pub decreases-loop-rest : goal.decreases-loop-rest
decreases-loop-rest l = length l.rest
