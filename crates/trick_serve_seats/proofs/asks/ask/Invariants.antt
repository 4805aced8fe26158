use Rattle.std.proofs.Common.{◌<◌, ◌+◌, ◌≤◌, [], vec_capacity, vec_len}
use Rattle.trick_serve_seats.proofs.asks.ask.Given as goal
use Rattle.trick_serve_seats.specs.Seats.{IsSeated}
use Rattle.trick_serve_seats.specs.Taking.{IsTaking, Start, hosts}

abbrev pub invariant-loop : goal.invariant-loop
invariant-loop g l = record {
  free : 0 < l.acceptor.places.free;
  room : vec_len l.acceptor.sessions.seated + 1 ≤ vec_capacity l.acceptor.sessions.past;
  place : vec_len l.acceptor.sessions.seated < vec_capacity l.acceptor.sessions.seated;
  number : vec_len l.acceptor.sessions.seated < 4294967295;
  taking : (start : Start _ _ _ _) → IsTaking (hosts g.D.Door.visited g.D.In.LinkIn g.D.Out.LinkOut g.S.Spawner.failures g.D.Door.has_client) (IsSeated g.D.In.LinkIn g.D.Out.LinkOut) start [] l.initial.door l.initial.acceptor
      → IsTaking (hosts g.D.Door.visited g.D.In.LinkIn g.D.Out.LinkOut g.S.Spawner.failures g.D.Door.has_client) (IsSeated g.D.In.LinkIn g.D.Out.LinkOut) start [] l.door l.acceptor;
}
