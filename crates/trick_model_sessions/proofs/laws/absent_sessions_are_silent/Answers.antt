use Rattle.trick_model_sessions.proofs.Silence.{absent}
use Rattle.trick_model_sessions.proofs.laws.absent_sessions_are_silent.Goals as goal

pub returns : goal.returns
returns c = λ p w entries number away none. absent p w entries number away none
