use Rattle.trick_serve_facts.proofs.Texts.{texts_by_turns}
use Rattle.trick_serve_facts.proofs.laws.texts_are_by_turns.Goals as goal

pub returns : goal.returns
returns c = λ p s lists entries n. texts_by_turns p s lists entries n
