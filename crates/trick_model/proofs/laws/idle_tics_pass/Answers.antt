use Rattle.trick_model.proofs.Idle.{idle_tics_pass}
use Rattle.trick_model.proofs.laws.idle_tics_pass.Goals as goal

pub returns : goal.returns
returns c = idle_tics_pass
