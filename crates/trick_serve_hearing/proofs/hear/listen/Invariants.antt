use Rattle.std.proofs.Common.{◌≡◌, true, false}
use Rattle.trick_serve_hearing.proofs.hear.listen.Given as goal
use Rattle.trick_serve_hearing.specs.Gathering.{HasListed}
use Rattle.trick_serve_hearing.specs.Sides.{side_of}

abbrev pub invariant-loop : goal.invariant-loop
invariant-loop g l = record {
  listed : HasListed l.session (side_of l.fn.seat) (side_of l.seat) l.fn.list.items l.list.items true;
  quick : l.seat.left ≡ false → l.seat.slow ≡ false;
}
