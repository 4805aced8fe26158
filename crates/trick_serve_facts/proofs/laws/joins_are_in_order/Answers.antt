use Rattle.trick_serve_facts.proofs.Joins.{joins_in_order}
use Rattle.trick_serve_facts.proofs.laws.joins_are_in_order.Goals as goal

pub returns : goal.returns
returns c = λ p s lists old new run right. joins_in_order p s lists old new run right
