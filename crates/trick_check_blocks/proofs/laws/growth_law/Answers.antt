use Rattle.trick_check_blocks.proofs.Made.{grows_parts}
use Rattle.trick_check_blocks.proofs.laws.growth_law.Goals as goal

pub returns : goal.returns
returns c = grows_parts
