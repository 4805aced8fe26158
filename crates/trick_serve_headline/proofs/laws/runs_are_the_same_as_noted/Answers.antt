use Rattle.trick_serve_headline.proofs.Same.{the_same}
use Rattle.trick_serve_headline.proofs.laws.runs_are_the_same_as_noted.Goals as goal

pub returns : goal.returns
returns c = λ p s lists. the_same c.noted_turns_do_the_same.ensures p s lists
