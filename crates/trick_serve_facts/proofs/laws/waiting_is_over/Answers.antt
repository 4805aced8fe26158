use Rattle.trick_serve_facts.proofs.Waits.{waiting_over}
use Rattle.trick_serve_facts.proofs.laws.waiting_is_over.Goals as goal

pub returns : goal.returns
returns c = λ p s lists old new run last waiting. waiting_over p s lists old new run last waiting
