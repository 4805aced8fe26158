use Rattle.trick_model.proofs.Turns.{turns_keep_validity}
use Rattle.trick_model.proofs.laws.turns_keep_validity.Goals as goal

pub returns : goal.returns
returns c = turns_keep_validity
