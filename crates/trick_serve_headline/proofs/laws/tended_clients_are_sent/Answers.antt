use Rattle.trick_serve_headline.proofs.Tended.{sent_all}
use Rattle.trick_serve_headline.proofs.laws.tended_clients_are_sent.Goals as goal
use Rattle.trick_serve_seats.specs.Taking.{hosts}

pub returns : goal.returns
returns g c = λ door spawner old new answers said closed none went tended.
    sent_all (hosts g.D.Door.visited g.D.In.LinkIn g.D.Out.LinkOut g.S.Spawner.failures g.D.Door.has_client)
    door spawner new closed tended c.clients_are_sent.ensures old answers said none went
