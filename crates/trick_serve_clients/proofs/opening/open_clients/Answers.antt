use Rattle.std.proofs.Common.{ap, refl}
use Rattle.trick_serve_clients.proofs.Openings.{begun_as, opened_here, unserved_by}
use Rattle.trick_serve_clients.proofs.opening.open_clients.Goals as goal
use Rattle.trick_serve_seats.specs.Taking.{Hosts, hosts}
use Rattle.trick_serve_door.specs.declared.taking.Accepting.{Accepting}

pub returns-in-Ok-start_accepting : goal.returns-in-Ok-start_accepting
returns-in-Ok-start_accepting g c =
    let h : Hosts g.row.D.Denot g.row.D-In.Denot g.row.D-Out.Denot g.row.S.Denot = hosts g.D.Door.visited g.D.In.LinkIn g.D.Out.LinkOut g.S.Spawner.failures g.D.Door.has_client in
    record {
      unserved = unserved_by c.new-served.result c.in-Ok.ways c.of-begun.result.value.coming c.of-begun.result.value.gone c.in-Ok.ensures
          (ap (λ (w : Accepting g.row.D.Denot g.row.S.Denot g.row.R.Denot g.row.D-In.Denot g.row.D-Out.Denot). w.coming) c.of-begun.ensures)
          (ap (λ (w : Accepting g.row.D.Denot g.row.S.Denot g.row.R.Denot g.row.D-In.Denot g.row.D-Out.Denot). w.gone) c.of-begun.ensures)
          c.new-served.ensures.seats c.new-served.ensures.sessions c.new-served.ensures.whole c.new-served.ensures.silent c.new-served.ensures.coming c.new-served.ensures.gone;
      door_is = ap (λ (w : Accepting g.row.D.Denot g.row.S.Denot g.row.R.Denot g.row.D-In.Denot g.row.D-Out.Denot). w.door) c.of-begun.ensures;
      spawner_is = ap (λ (w : Accepting g.row.D.Denot g.row.S.Denot g.row.R.Denot g.row.D-In.Denot g.row.D-Out.Denot). w.spawner) c.of-begun.ensures;
      begun = begun_as h c.of-begun.result.value _ _ _ c.of-begun.ensures
          (record { admitted = c.in-Ok-start_accepting.ensures.started.0; later = c.in-Ok-start_accepting.ensures.started.1; running = c.in-Ok-start_accepting.ensures.started.2 });
    }

pub returns-in-Err : goal.returns-in-Err
returns-in-Err g c =
    let h : Hosts g.row.D.Denot g.row.D-In.Denot g.row.D-Out.Denot g.row.S.Denot = hosts g.D.Door.visited g.D.In.LinkIn g.D.Out.LinkOut g.S.Spawner.failures g.D.Door.has_client in
    opened_here h c.ask_here.result c.new-served.result c.in-Err.work _ c.ask_here.ensures.served c.ask_here.ensures.begun c.in-Err.ensures.back c.in-Err.ensures.later c.in-Err.ensures.cause c.ask_here.ensures.asking
    (unserved_by c.new-served.result c.in-Ok.ways _ _ c.in-Ok.ensures refl refl c.new-served.ensures.seats c.new-served.ensures.sessions c.new-served.ensures.whole c.new-served.ensures.silent c.new-served.ensures.coming c.new-served.ensures.gone)
