use Rattle.trick_serve_headline.proofs.Sent.{fronts_sent}
use Rattle.trick_serve_headline.proofs.laws.fronts_are_sent.Goals as goal
use Rattle.trick_serve_seats.specs.Taking.{hosts}

pub returns : goal.returns
returns g c = λ p s lists sent before left door now stands were.
    fronts_sent (hosts g.D.Door.visited g.D.In.LinkIn g.D.Out.LinkOut g.S.Spawner.failures g.D.Door.has_client) p s lists sent before left door now stands were
