use Rattle.trick_serve_headline.proofs.Clients.{served_as_noted}
use Rattle.trick_serve_headline.proofs.laws.clients_are_served_as_noted.Goals as goal

pub returns : goal.returns
returns c = λ p s lists n queues tale run. served_as_noted c.noted_turns_do_the_same.ensures p s lists n queues tale run
