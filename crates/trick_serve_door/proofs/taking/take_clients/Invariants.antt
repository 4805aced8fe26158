use Rattle.std.proofs.Common.{[]}
use Rattle.trick_serve_door.proofs.taking.take_clients.Given as goal
use Rattle.trick_serve_seats.specs.Seats.{IsSeated}
use Rattle.trick_serve_seats.specs.Taking.{IsTaking, Start, hosts}

abbrev pub invariant-loop : goal.invariant-loop
invariant-loop g l = (start : Start _ _ _ _) → IsTaking (hosts g.D.Door.visited g.D.In.LinkIn g.D.Out.LinkOut g.S.Spawner.failures g.D.Door.has_client) (IsSeated g.D.In.LinkIn g.D.Out.LinkOut) start [] l.initial.door l.initial.acceptor
    → IsTaking (hosts g.D.Door.visited g.D.In.LinkIn g.D.Out.LinkOut g.S.Spawner.failures g.D.Door.has_client) (IsSeated g.D.In.LinkIn g.D.Out.LinkOut) start [] l.door l.acceptor
