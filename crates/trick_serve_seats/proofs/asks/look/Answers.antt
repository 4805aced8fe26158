use Rattle.std.proofs.Common.{[], ◌≤◌, arith, length, refl, rules}
use Rattle.trick_serve_seats.proofs.Calls.{ended_answered, ended_full, ended_here, taking_client, taking_idle, taking_placed, taking_room, taking_taken, taking_waits}
use Rattle.trick_serve_seats.proofs.asks.look.Goals as goal
use Rattle.trick_serve_seats.specs.Seats.{IsPast}
use Rattle.trick_serve_seats.specs.Taking.{Hosts, hosts}
use Rattle.trick_serve_seats.specs.declared.asks.End.TheVariants as end

pub returns-then-is_full-clause-asked : goal.returns-then-is_full-clause-asked
returns-then-is_full-clause-asked g c = λ start fresh t.
    let h : Hosts g.row.D.Denot g.row.D-In.Denot g.row.D-Out.Denot g.row.S.Denot = hosts g.D.Door.visited g.D.In.LinkIn g.D.Out.LinkOut g.S.Spawner.failures g.D.Door.has_client in
    let many : 4294967295 ≤ length c.args.acceptor.now.sessions.seated.items = omega (arith, (c.is_full.ensures).0 (search rules), c.args.acceptor.now.sessions.seated.ok.0) in
    ended_full h (IsPast h.input h.output) start c.args.door.now c.args.acceptor.now t many

pub returns-then-is_over-clause-asked : goal.returns-then-is_over-clause-asked
returns-then-is_over-clause-asked g c = λ start fresh t.
    let h : Hosts g.row.D.Denot g.row.D-In.Denot g.row.D-Out.Denot g.row.S.Denot = hosts g.D.Door.visited g.D.In.LinkIn g.D.Out.LinkOut g.S.Spawner.failures g.D.Door.has_client in
    ended_here h (IsPast h.input h.output) start end.Closed [] c.args.door.now _ (taking_placed h (IsPast h.input h.output) start [] _ _ _ t c.is_over.ensures.placed) (λ count. refl) (λ same. c.is_over.ensures.over (search rules))

pub returns-in-Client-clause-asked : goal.returns-in-Client-clause-asked
returns-in-Client-clause-asked g c = λ start fresh t.
    let h : Hosts g.row.D.Denot g.row.D-In.Denot g.row.D-Out.Denot g.row.S.Denot = hosts g.D.Door.visited g.D.In.LinkIn g.D.Out.LinkOut g.S.Spawner.failures g.D.Door.has_client in
    let placed = taking_placed h (IsPast h.input h.output) start [] _ _ _ t c.is_over.ensures.placed in
    let before = taking_room h (IsPast h.input h.output) start [] _ _ _ placed c.prepare.ensures.same in
    let now = taking_client h (IsPast h.input h.output) start _ _ _ c.in-Client.input c.in-Client.output g.met.D.Door.visited_join before c.in-Client.ensures in
    taking_taken h (IsPast h.input h.output) start _ _ _ c.in-Client.input c.in-Client.output now (c.take_refused.ensures (c.in-Ok.ensures.fresh fresh))

pub returns-in-NotYet-clause-asked : goal.returns-in-NotYet-clause-asked
returns-in-NotYet-clause-asked g c = λ start fresh t.
    let h : Hosts g.row.D.Denot g.row.D-In.Denot g.row.D-Out.Denot g.row.S.Denot = hosts g.D.Door.visited g.D.In.LinkIn g.D.Out.LinkOut g.S.Spawner.failures g.D.Door.has_client in
    let placed = taking_placed h (IsPast h.input h.output) start [] _ _ _ t c.is_over.ensures.placed in
    let before = taking_room h (IsPast h.input h.output) start [] _ _ _ placed c.prepare.ensures.same in
    let now = taking_waits h (IsPast h.input h.output) start _ _ _ g.met.D.Door.visited_join before c.in-NotYet.ensures in
    taking_idle h (IsPast h.input h.output) start _ _ _ now c.tell_nobody.ensures

pub returns-in-End-clause-asked : goal.returns-in-End-clause-asked
returns-in-End-clause-asked g c = λ start fresh t.
    let h : Hosts g.row.D.Denot g.row.D-In.Denot g.row.D-Out.Denot g.row.S.Denot = hosts g.D.Door.visited g.D.In.LinkIn g.D.Out.LinkOut g.S.Spawner.failures g.D.Door.has_client in
    let placed = taking_placed h (IsPast h.input h.output) start [] _ _ _ t c.is_over.ensures.placed in
    let before = taking_room h (IsPast h.input h.output) start [] _ _ _ placed c.prepare.ensures.same in
    ended_answered h (IsPast h.input h.output) start c.in-End.end _ _ _ g.met.D.Door.visited_join before c.in-End.ensures
