use Rattle.trick_check_blocks.proofs.Made.{keeps_parts}
use Rattle.trick_check_blocks.proofs.laws.methods_law.Goals as goal

pub returns : goal.returns
returns c = keeps_parts
