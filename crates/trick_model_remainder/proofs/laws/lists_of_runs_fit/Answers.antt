use Rattle.trick_model_remainder.proofs.Going.{lasting_fits}
use Rattle.trick_model_remainder.proofs.laws.lists_of_runs_fit.Goals as goal

pub returns : goal.returns
returns c = λ p s left lists end lasts. lasting_fits p s left lists end lasts
