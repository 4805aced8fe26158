use Rattle.trick_model.proofs.Turns.{runs_start_valid}
use Rattle.trick_model.proofs.laws.runs_start_valid.Goals as goal

pub returns : goal.returns
returns c = runs_start_valid
