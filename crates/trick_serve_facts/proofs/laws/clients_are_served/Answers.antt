use Rattle.trick_serve_facts.proofs.Outcomes.{clients_served}
use Rattle.trick_serve_facts.proofs.laws.clients_are_served.Goals as goal

pub returns : goal.returns
returns c = λ p s lists old new k queues tale run seated says. clients_served p s lists old new k queues tale run seated says
