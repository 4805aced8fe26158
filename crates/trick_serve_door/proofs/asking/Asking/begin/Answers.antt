use Rattle.trick_serve_seats.proofs.Calls.{taking_begins}
use Rattle.trick_serve_door.proofs.asking.Asking.begin.Goals as goal
use Rattle.trick_serve_seats.specs.Seats.{IsPast}
use Rattle.trick_serve_seats.specs.Taking.{Hosts, Start, hosts, start_of}

pub returns : goal.returns
returns g c =
    let h : Hosts g.row.D.Denot g.row.D-In.Denot g.row.D-Out.Denot g.row.S.Denot = hosts g.D.Door.visited g.D.In.LinkIn g.D.Out.LinkOut g.S.Spawner.failures g.D.Door.has_client in
    let work = c.args.work in
    let start : Start g.row.D.Denot g.row.D-In.Denot g.row.D-Out.Denot g.row.S.Denot = start_of work.door work.spawner work.coming work.gone in
    record { ready = tt; asks = taking_begins h (IsPast h.input h.output) start _ (g.met.D.Door.visited_none work.door) c.new.ensures }
