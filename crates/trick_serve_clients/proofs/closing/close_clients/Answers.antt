use Rattle.trick_serve_source.specs.Rolls.{view_of}
use Rattle.trick_serve_clients.proofs.Closings.{accepted, are_over, tended_later}
use Rattle.trick_serve_clients.proofs.closing.close_clients.Goals as goal
use Rattle.trick_serve_seats.specs.Taking.{Hosts, hosts, start_of}

pub end_clients-requires : goal.end_clients-requires
end_clients-requires g c =
    let h : Hosts g.row.D.Denot g.row.D-In.Denot g.row.D-Out.Denot g.row.S.Denot = hosts g.D.Door.visited g.D.In.LinkIn g.D.Out.LinkOut g.S.Spawner.failures g.D.Door.has_client in
    let begun = c.args.clients.begun.value in
    let finished = c.finish-finished.ensures in
    let a = accepted h c.finish_accepting-taken.result c.requires.begun c.finish_accepting-taken.ensures in (
      start_of begun.door c.requires.begun.admitted begun.coming begun.gone,
      view_of c.args.clients.served,
      are_over h _ c.args.clients.served c.finish-finished.result _ c.take_late-late.result.items c.finish_accepting-taken.result a c.requires.told c.requires.unheard c.take_late-late.ensures.late
          c.take_late-late.ensures.queue finished.seats finished.clients finished.last finished.silent finished.memory finished.left finished.coming finished.gone c.requires.way c.requires.back,
    )

pub returns : goal.returns
returns g c =
    let h : Hosts g.row.D.Denot g.row.D-In.Denot g.row.D-Out.Denot g.row.S.Denot = hosts g.D.Door.visited g.D.In.LinkIn g.D.Out.LinkOut g.S.Spawner.failures g.D.Door.has_client in
    let begun = c.args.clients.begun.value in
    let finished = c.finish-finished.ensures in
    let a = accepted h c.finish_accepting-taken.result c.requires.begun c.finish_accepting-taken.ensures in
    let over = are_over h _ c.args.clients.served c.finish-finished.result _ c.take_late-late.result.items c.finish_accepting-taken.result a c.requires.told c.requires.unheard c.take_late-late.ensures.late
    c.take_late-late.ensures.queue finished.seats finished.clients finished.last finished.silent finished.memory finished.left finished.coming finished.gone c.requires.way c.requires.back in
    tended_later h begun.door begun.spawner c.requires.begun.admitted (view_of c.args.clients.served) c.end_clients.result c.requires.begun.later
    (c.end_clients.ensures (start_of begun.door c.requires.begun.admitted begun.coming begun.gone) (view_of c.args.clients.served) over)
