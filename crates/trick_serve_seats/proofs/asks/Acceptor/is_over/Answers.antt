use Rattle.std.proofs.Common.{refl}
use Rattle.trick_serve_seats.proofs.asks.Acceptor.is_over.Goals as goal

pub returns-clause-placed : goal.returns-clause-placed
returns-clause-placed g c = record { sessions = refl; teller = refl; spawner = refl; asked = refl; gone = c.is_over.ensures.gone; left = c.is_over.ensures.left }
