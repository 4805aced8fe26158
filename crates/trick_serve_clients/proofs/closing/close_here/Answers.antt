use Rattle.trick_serve_source.specs.Rolls.{view_of}
use Rattle.trick_serve_clients.proofs.Closings.{are_over}
use Rattle.trick_serve_clients.proofs.closing.close_here.Goals as goal
use Rattle.trick_serve_clients.specs.Opened.{start_with}
use Rattle.trick_serve_seats.specs.Taking.{Hosts, hosts}

pub end_clients-requires : goal.end_clients-requires
end_clients-requires g c =
    let h : Hosts g.row.D.Denot g.row.D-In.Denot g.row.D-Out.Denot g.row.S.Denot = hosts g.D.Door.visited g.D.In.LinkIn g.D.Out.LinkOut g.S.Spawner.failures g.D.Door.has_client in
    let start = start_with c.args.clients.begun.value in
    let served = c.args.clients.served.served in
    let finished = c.finish-finished.ensures in (
      start,
      view_of served,
      are_over h start served c.finish-finished.result _ c.take_late-late.result.items c.finish-taken.result (c.finish-taken.ensures start c.requires.asking) c.requires.told c.requires.unheard
          c.take_late-late.ensures.late c.take_late-late.ensures.queue finished.seats finished.clients finished.last finished.silent finished.memory finished.left finished.coming finished.gone c.requires.way
          c.requires.back,
    )

pub returns : goal.returns
returns g c =
    let h : Hosts g.row.D.Denot g.row.D-In.Denot g.row.D-Out.Denot g.row.S.Denot = hosts g.D.Door.visited g.D.In.LinkIn g.D.Out.LinkOut g.S.Spawner.failures g.D.Door.has_client in
    let start = start_with c.args.clients.begun.value in
    let served = c.args.clients.served.served in
    let finished = c.finish-finished.ensures in
    let over = are_over h start served c.finish-finished.result _ c.take_late-late.result.items c.finish-taken.result (c.finish-taken.ensures start c.requires.asking) c.requires.told c.requires.unheard
    c.take_late-late.ensures.late c.take_late-late.ensures.queue finished.seats finished.clients finished.last finished.silent finished.memory finished.left finished.coming finished.gone c.requires.way
    c.requires.back in
    c.end_clients.ensures start (view_of served) over
