use Rattle.std.proofs.Common.{length, ◌-◌, List}
use Rattle.trick_outside.specs.Pieces.{Piece}
use Rattle.trick_outside.proofs.PieceLemmas.{IsPutting}
use Rattle.trick_outside.proofs.print.put.Given as goal

abbrev pub invariant-loop-at : goal.invariant-loop-at
invariant-loop-at g l = (pieces : List Piece) × IsPutting g.O.Sink l.fn.out l.out l.bytes l.at pieces

abbrev pub decreases-loop-at : goal.decreases-loop-at
decreases-loop-at g l = length l.bytes - l.at
