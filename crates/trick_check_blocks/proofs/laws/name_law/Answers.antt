use Rattle.trick_check_blocks.proofs.Rowed.{named_block}
use Rattle.trick_check_blocks.proofs.laws.name_law.Goals as goal

pub returns : goal.returns
returns c = named_block
