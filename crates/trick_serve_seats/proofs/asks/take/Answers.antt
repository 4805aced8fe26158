use Rattle.std.proofs.Common.{◌≡◌, subst, sym, true}
use Rattle.trick_outside.specs.Causes.{HasCause}
use Rattle.trick_serve_seats.proofs.asks.take.Goals as goal

pub returns : goal.returns
returns g c = record {
  arrival = c.seat-seated.result.1;
  session = c.seat-seated.result.0;
  coming = c.add.ensures.coming;
  told = c.add.ensures.told;
  links_are = (c.seat-seated.ensures.input, c.seat-seated.ensures.output);
  seated = c.add.ensures.seated;
  fits = c.seat-seated.ensures.seated;
  cause = subst (λ s. HasCause (g.S.Spawner.failures c.args.acceptor.now.spawner) (g.S.Spawner.failures s) (c.seat-seated.result.1.refused ≡ true)) (sym c.add.ensures.spawner) c.seat-seated.ensures.cause;
  asked = c.add.ensures.asked;
  place = c.add.ensures.place;
  gone = c.add.ensures.gone;
}
