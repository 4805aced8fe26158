use Rattle.trick_check_blocks.proofs.Made.{holds}
use Rattle.trick_check_blocks.proofs.laws.blocks_law.Goals as goal

pub returns : goal.returns
returns c = holds
