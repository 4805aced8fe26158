use Rattle.trick_model.proofs.Runs.{runs_join}
use Rattle.trick_model.proofs.laws.runs_join.Goals as goal

pub returns : goal.returns
returns c = runs_join
