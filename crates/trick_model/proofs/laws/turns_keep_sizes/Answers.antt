use Rattle.trick_model.proofs.Sizes.{turns_keep_sizes}
use Rattle.trick_model.proofs.laws.turns_keep_sizes.Goals as goal

pub returns : goal.returns
returns c = turns_keep_sizes
