use Rattle.trick_serve_headline.proofs.Alone.{alone}
use Rattle.trick_serve_headline.proofs.laws.runs_of_nobody_are_alone.Goals as goal

pub returns : goal.returns
returns c = λ p s lists polls waits fits rules chosen joins quiet. alone p s lists polls waits fits rules chosen joins quiet
