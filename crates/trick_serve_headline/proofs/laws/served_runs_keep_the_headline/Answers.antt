use Rattle.trick_serve_headline.proofs.Headline.{keep}
use Rattle.trick_serve_headline.proofs.laws.served_runs_keep_the_headline.Goals as goal
use Rattle.trick_serve_seats.specs.Taking.{hosts}

pub returns : goal.returns
returns g c = λ plan s lists old new door now spawner after accepted begins ends ran.
    keep c.noted_turns_do_the_same.ensures c.written_journals_are_journals.ensures c.turns_are_counted.ensures c.runs_write_remainders.ensures
    g.F.Shelf (hosts g.D.Door.visited g.D.In.LinkIn g.D.Out.LinkOut g.S.Spawner.failures g.D.Door.has_client)
    plan s lists old new door now spawner after accepted begins ends ran
