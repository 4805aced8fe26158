use Rattle.trick_serve_headline.proofs.Served.{serves_tended}
use Rattle.trick_serve_headline.proofs.laws.tended_clients_are_served.Goals as goal
use Rattle.trick_serve_seats.specs.Taking.{hosts}

pub returns : goal.returns
returns g c = λ door spawner p s lists old new closed run last right tended told.
    serves_tended (record {
      served = c.runs_are_served.ensures;
      heard_out = c.clients_are_heard_out.ensures;
      over = c.waiting_is_over.ensures;
      leaves = c.leaves_are_told.ensures;
      wants = c.wants_are_said.ensures;
      few = c.few_no_threads.ensures;
      first = c.first_clients_join.ensures;
    })
    (hosts g.D.Door.visited g.D.In.LinkIn g.D.Out.LinkOut g.S.Spawner.failures g.D.Door.has_client)
    door spawner p s lists old new closed run last right tended told
