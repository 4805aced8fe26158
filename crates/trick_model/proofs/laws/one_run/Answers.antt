use Rattle.trick_model.proofs.Runs.{one_run}
use Rattle.trick_model.proofs.laws.one_run.Goals as goal

pub returns : goal.returns
returns c = one_run
