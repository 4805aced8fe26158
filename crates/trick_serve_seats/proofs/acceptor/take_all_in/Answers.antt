use Rattle.std.proofs.Common.{arith}
use Rattle.trick_serve_seats.proofs.TakingIn.{in_all, in_more, in_none}
use Rattle.trick_serve_seats.proofs.acceptor.take_all_in.Goals as goal

pub loop-last-init : goal.loop-last-init
loop-last-init g c = record {
  fits = λ arrivals fit. in_none g.I.LinkIn g.O.LinkOut arrivals _ _ fit (omega (arith, c.args.sessions.past.ok.0, c.args.sessions.none));
  room = omega (arith, c.args.sessions.room, c.args.sessions.none);
}

pub loop-last-preserved : goal.loop-last-preserved
loop-last-preserved g c = record {
  fits = λ arrivals fit. in_more g.I.LinkIn g.O.LinkOut arrivals _ _ _ _ _ _ c.in-Some.ensures.items c.push_reserved.ensures.items c.take_in.ensures (c.loop-last.invariant.fits arrivals fit);
  room = omega (arith, c.loop-last.invariant.room, c.in-Some.ensures.len, c.push_reserved.ensures.len, c.push_reserved.ensures.capacity);
}

pub returns : goal.returns
returns g c = λ arrivals fit. in_all g.I.LinkIn g.O.LinkOut arrivals _ _ _ (omega (arith, c.loop-last.seated.ok.0, c.in_default.ensures.cases.0)) c.reverse.ensures.items (c.loop-last.invariant.fits arrivals fit)
