use Rattle.trick_serve_facts.proofs.Waits.{clients_heard_out}
use Rattle.trick_serve_facts.proofs.laws.clients_are_heard_out.Goals as goal

pub returns : goal.returns
returns c = λ p s lists old new k queues tale run last waiting seated says.
    clients_heard_out p s lists old new k queues tale run last waiting seated says
