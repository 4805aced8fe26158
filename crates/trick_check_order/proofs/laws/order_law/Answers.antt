use Rattle.trick_check_order.proofs.Steps.{order_is_free}
use Rattle.trick_check_order.proofs.laws.order_law.Goals as goal

pub returns : goal.returns
returns c = λ g order o k r. order_is_free g order o k r
