use Rattle.trick_serve_door.proofs.Stopping.{closes}
use Rattle.trick_serve_door.proofs.asking.Asking.finish.Goals as goal
use Rattle.trick_serve_seats.specs.Taking.{Hosts, hosts}

pub returns : goal.returns
returns g c = λ start t.
    let h : Hosts g.row.D.Denot g.row.D-In.Denot g.row.D-Out.Denot g.row.S.Denot = hosts g.D.Door.visited g.D.In.LinkIn g.D.Out.LinkOut g.S.Spawner.failures g.D.Door.has_client in
    closes h start c.args.self.end c.args.self.door _ _ t.asks c.close.ensures
