use Rattle.trick_model.proofs.Runs.{fitting_lasts}
use Rattle.trick_model.proofs.laws.fitting_lists_last.Goals as goal

pub returns : goal.returns
returns c = fitting_lasts
