use Rattle.trick_serve_facts.proofs.Firsts.{first_join}
use Rattle.trick_serve_facts.proofs.laws.first_clients_join.Goals as goal

pub returns : goal.returns
returns c = λ p s lists old new run right heard. first_join p s lists old new run right heard
