use Rattle.trick_model.proofs.Continue.{joins_are_noted}
use Rattle.trick_model.proofs.laws.joins_are_noted.Goals as goal

pub returns : goal.returns
returns c = joins_are_noted
