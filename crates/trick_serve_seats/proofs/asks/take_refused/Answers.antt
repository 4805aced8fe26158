use Rattle.std.proofs.Common.{◌≡◌, subst, sym, true}
use Rattle.trick_outside.specs.Causes.{HasCause}
use Rattle.trick_serve_seats.proofs.asks.take_refused.Goals as goal

pub returns : goal.returns
returns g c = λ fresh. record {
  arrival = c.turn_away-past.result.1;
  session = c.turn_away-past.result.0;
  coming = c.add.ensures.coming;
  told = c.add.ensures.told;
  links_are = (c.turn_away-past.ensures.input, c.turn_away-past.ensures.output);
  seated = c.add.ensures.seated;
  fits = c.turn_away-past.ensures.past fresh;
  cause = subst (λ s. HasCause (g.S.Spawner.failures c.args.acceptor.now.spawner) (g.S.Spawner.failures s) (c.turn_away-past.result.1.refused ≡ true)) (sym c.add.ensures.spawner) c.turn_away-past.ensures.cause;
  asked = c.add.ensures.asked;
  place = c.add.ensures.place;
  gone = c.add.ensures.gone;
}
