use Rattle.trick_model_sessions.proofs.Silence.{strangers}
use Rattle.trick_model_sessions.proofs.laws.strangers_are_silent.Goals as goal

pub returns : goal.returns
returns c = λ p s lists number none. strangers p s lists number none
