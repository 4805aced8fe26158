use Rattle.trick_model.proofs.Continue.{runs_continue}
use Rattle.trick_model.proofs.laws.runs_continue.Goals as goal

pub returns : goal.returns
returns c = runs_continue
