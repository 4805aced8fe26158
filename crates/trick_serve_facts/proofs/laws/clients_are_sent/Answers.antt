use Rattle.trick_serve_facts.proofs.Sent.{clients_sent}
use Rattle.trick_serve_facts.proofs.laws.clients_are_sent.Goals as goal

pub returns : goal.returns
returns c = λ old new answers said k queues tale none went seated says. clients_sent old new answers said k queues tale none went seated says
