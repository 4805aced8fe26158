use Rattle.trick_serve_facts.proofs.NoThreads.{few_refused}
use Rattle.trick_serve_facts.proofs.laws.few_no_threads.Goals as goal

pub returns : goal.returns
returns c = λ p s lists old new run right. few_refused p s lists old new run right
