use Rattle.trick_serve_facts.proofs.Clients.{others_absent}
use Rattle.trick_serve_facts.proofs.laws.others_are_absent.Goals as goal

pub returns : goal.returns
returns c = λ p s lists old new k run unseated. others_absent p s lists old new k run unseated
