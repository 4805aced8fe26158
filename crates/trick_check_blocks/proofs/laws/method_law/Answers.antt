use Rattle.trick_check_blocks.proofs.Made.{method_holds}
use Rattle.trick_check_blocks.proofs.laws.method_law.Goals as goal

pub returns : goal.returns
returns c = method_holds
