use Rattle.trick_model.proofs.Idle.{limit_stops}
use Rattle.trick_model.proofs.laws.limit_stops.Goals as goal

pub returns : goal.returns
returns c = limit_stops
