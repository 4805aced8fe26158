use Rattle.trick_serve_facts.proofs.Wants.{wants_said}
use Rattle.trick_serve_facts.proofs.laws.wants_are_said.Goals as goal

pub returns : goal.returns
returns c = λ p s lists old new k queues run seated told. wants_said p s lists old new k queues run seated told
