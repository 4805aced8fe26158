use Rattle.trick_check_order.proofs.Chain.{free_order}
use Rattle.trick_check_order.proofs.laws.one_order_law.Goals as goal

pub returns : goal.returns
returns c = λ g are free. free_order g are free
