use Rattle.std.proofs.Common.{arith, refl}
use Rattle.trick_serve_seats.proofs.asks.Acceptor.add.Goals as goal

pub returns : goal.returns
returns g c = record {
  coming = c.tell.ensures.queue;
  told = c.tell.ensures.put;
  seated = c.add.ensures;
  spawner = refl;
  asked = refl;
  place = omega (arith, c.requires.free);
  gone = refl;
}
