use Rattle.std.proofs.Common.{◌≡◌, ◌+◌, length}
use Rattle.trick_text.specs.Pieces.{before_close}
use Rattle.trick_text.proofs.Closing.{further}
use Rattle.trick_text.proofs.piece.before_close.Given as goal

abbrev pub invariant-loop-rest : goal.invariant-loop-rest
invariant-loop-rest l = record {
  within : l.n + length l.rest ≡ length l.text;
  so_far : further l.n (before_close l.rest) ≡ before_close l.text;
}

abbrev pub decreases-loop-rest : goal.decreases-loop-rest
decreases-loop-rest l = length l.rest
