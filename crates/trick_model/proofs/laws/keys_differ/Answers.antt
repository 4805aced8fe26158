use Rattle.trick_model.proofs.Keys.{keys_differ}
use Rattle.trick_model.proofs.laws.keys_differ.Goals as goal

pub returns : goal.returns
returns c = keys_differ
