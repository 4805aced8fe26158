use Rattle.trick_serve_seats.proofs.Calls.{accepted, taking_begins}
use Rattle.trick_serve_door.proofs.taking.accept.Goals as goal
use Rattle.trick_serve_seats.specs.Seats.{IsSeated}
use Rattle.trick_serve_seats.specs.Taking.{Hosts, Start, hosts, start_of}

pub returns : goal.returns
returns g c =
    let h : Hosts g.row.D.Denot g.row.D-In.Denot g.row.D-Out.Denot g.row.S.Denot = hosts g.D.Door.visited g.D.In.LinkIn g.D.Out.LinkOut g.S.Spawner.failures g.D.Door.has_client in
    let work = c.args.work in
    let start : Start g.row.D.Denot g.row.D-In.Denot g.row.D-Out.Denot g.row.S.Denot = start_of work.door work.spawner work.coming work.gone in
    let e = c.take_clients-end.ensures start (taking_begins h (IsSeated h.input h.output) start _ (g.met.D.Door.visited_none work.door) c.new-acceptor.ensures) in
    accepted h (IsSeated h.input h.output) start c.take_clients-end.result e.last _ _ _ _ _ e.taking e.ended c.tell_end.ensures c.close.ensures c.take_all_in-sessions.ensures
