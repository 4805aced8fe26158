use Rattle.trick_serve_facts.proofs.IsServed.{runs_served}
use Rattle.trick_serve_facts.proofs.laws.runs_are_served.Goals as goal

pub returns : goal.returns
returns c = λ p s lists old new run right. runs_served p s lists old new run right
