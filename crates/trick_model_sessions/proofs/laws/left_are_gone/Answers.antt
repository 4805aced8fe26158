use Rattle.trick_model_sessions.proofs.Silence.{left_gone}
use Rattle.trick_model_sessions.proofs.laws.left_are_gone.Goals as goal

pub returns : goal.returns
returns c = λ p s early entries before number cause rise are. left_gone p s early entries before number cause rise are
