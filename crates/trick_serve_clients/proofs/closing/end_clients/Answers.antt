use Rattle.std.proofs.Common.{List, arith, subst, sym}
use Rattle.trick_serve_clients.proofs.Closings.{has_tended, have_ends}
use Rattle.trick_serve_clients.proofs.closing.end_clients.Goals as goal
use Rattle.trick_serve_clients.specs.Ending.{EndsAll}
use Rattle.trick_serve_clients.specs.Ends.{AreItsEnds}
use Rattle.trick_serve_seats.proofs.Calls.{fit_length}
use Rattle.trick_serve_seats.specs.Pairs.{AllFit}
use Rattle.trick_serve_seats.specs.Seats.{IsPast}
use Rattle.trick_serve_seats.specs.Taking.{Hosts, hosts}
use Rattle.trick_serve_door.specs.declared.ending.Ends.{Ends}

pub join-requires : goal.join-requires
join-requires g c = c.requires.2.way

pub join-requires-2 : goal.join-requires-2
join-requires-2 g c = c.requires.2.back

pub end_all-lacked-requires-clause-numbers : goal.end_all-lacked-requires-clause-numbers
end_all-lacked-requires-clause-numbers g c =
    let h : Hosts g.row.D.Denot g.row.D-In.Denot g.row.D-Out.Denot g.row.S.Denot = hosts g.D.Door.visited g.D.In.LinkIn g.D.Out.LinkOut g.S.Spawner.failures g.D.Door.has_client in
    let a = c.requires.2.accepted in
    omega (arith, fit_length (IsPast h.input h.output) a.arrivals c.args.taken.sessions.items a.past, a.numbers, c.args.taken.sessions.ok.0)

pub end_all-lacked-requires-clause-fit : goal.end_all-lacked-requires-clause-fit
end_all-lacked-requires-clause-fit g c =
    let h : Hosts g.row.D.Denot g.row.D-In.Denot g.row.D-Out.Denot g.row.S.Denot = hosts g.D.Door.visited g.D.In.LinkIn g.D.Out.LinkOut g.S.Spawner.failures g.D.Door.has_client in
    let o = c.requires in
    subst (λ (l : List Ends). AllFit AreItsEnds l c.args.taken.sessions.items) (sym c.new.ensures)
    (have_ends h o.0 o.1 c.args.finished c.args.late.items c.args.taken o.2 c.join.ensures.left.0 c.join.ensures.left.1 c.join-2.ensures.left.0 c.join-2.ensures.left.1)

pub returns : goal.returns
returns g c =
    let h : Hosts g.row.D.Denot g.row.D-In.Denot g.row.D-Out.Denot g.row.S.Denot = hosts g.D.Door.visited g.D.In.LinkIn g.D.Out.LinkOut g.S.Spawner.failures g.D.Door.has_client in
    let ended = subst (λ (l : List Ends). EndsAll h.visited h.input h.output c.args.taken.door c.end_all-lacked.new.door l c.args.taken.sessions.items c.end_all-lacked.result) c.new.ensures c.end_all-lacked.ensures.ended in
    λ start v o.
    has_tended h start v c.args.finished c.args.late.items c.args.taken o c.join.ensures.left.0 c.join.ensures.left.1 c.join-2.ensures.left.0 c.join-2.ensures.left.1
    c.end_all-lacked.new.door c.end_all-lacked.result ended g.met.D.Door.visited_join
