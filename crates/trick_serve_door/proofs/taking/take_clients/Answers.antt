use Rattle.std.proofs.Common.{[], ◌≤◌, arith, length, refl, rules}
use Rattle.trick_serve_seats.proofs.Calls.{ended_full, ended_here, taking_placed}
use Rattle.trick_serve_door.proofs.taking.take_clients.Goals as goal
use Rattle.trick_serve_seats.specs.Seats.{IsSeated}
use Rattle.trick_serve_seats.specs.Taking.{Hosts, hosts}
use Rattle.trick_serve_seats.specs.declared.asks.End.TheVariants as end

pub returns-then-is_full : goal.returns-then-is_full
returns-then-is_full g c = λ start t.
    let h : Hosts g.row.D.Denot g.row.D-In.Denot g.row.D-Out.Denot g.row.S.Denot = hosts g.D.Door.visited g.D.In.LinkIn g.D.Out.LinkOut g.S.Spawner.failures g.D.Door.has_client in
    let many : 4294967295 ≤ length c.loop.acceptor.sessions.seated.items = omega (arith, (c.is_full.ensures).0 (search rules), c.loop.acceptor.sessions.seated.ok.0) in
    ended_full h (IsSeated h.input h.output) start c.loop.door c.loop.acceptor (c.loop.invariant start t) many

pub returns-then-not-wait : goal.returns-then-not-wait
returns-then-not-wait g c = λ start t.
    let h : Hosts g.row.D.Denot g.row.D-In.Denot g.row.D-Out.Denot g.row.S.Denot = hosts g.D.Door.visited g.D.In.LinkIn g.D.Out.LinkOut g.S.Spawner.failures g.D.Door.has_client in
    ended_here h (IsSeated h.input h.output) start end.Closed [] c.loop.door _ (taking_placed h (IsSeated h.input h.output) start [] c.loop.door c.loop.acceptor _ (c.loop.invariant start t)
    (record { sessions = refl; teller = refl; spawner = refl; asked = refl; gone = c.wait.ensures.gone; left = c.wait.ensures.left })) (λ count. refl) (λ same. c.wait.ensures.over (search rules))

pub returns-in-Some-ask : goal.returns-in-Some-ask
returns-in-Some-ask g c = λ start t.
    let h : Hosts g.row.D.Denot g.row.D-In.Denot g.row.D-Out.Denot g.row.S.Denot = hosts g.D.Door.visited g.D.In.LinkIn g.D.Out.LinkOut g.S.Spawner.failures g.D.Door.has_client in
    c.in-Some-ask.ensures start (taking_placed h (IsSeated h.input h.output) start [] c.loop.door c.loop.acceptor _ (c.loop.invariant start t)
    (record { sessions = refl; teller = refl; spawner = refl; asked = refl; gone = c.wait.ensures.gone; left = c.wait.ensures.left }))
