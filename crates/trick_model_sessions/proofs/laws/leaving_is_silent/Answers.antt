use Rattle.trick_model_sessions.proofs.Silence.{leaving}
use Rattle.trick_model_sessions.proofs.laws.leaving_is_silent.Goals as goal

pub returns : goal.returns
returns c = λ p s early entries number cause rise only. leaving p s early entries number cause rise only
