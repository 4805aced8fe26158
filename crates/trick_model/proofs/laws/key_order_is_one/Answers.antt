use Rattle.trick_model.proofs.Keys.{key_order_is_one}
use Rattle.trick_model.proofs.laws.key_order_is_one.Goals as goal

pub returns : goal.returns
returns c = key_order_is_one
