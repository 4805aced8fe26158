use Rattle.trick_check_blocks.proofs.Rowed.{methods_hold}
use Rattle.trick_check_blocks.proofs.laws.program_law.Goals as goal

pub returns : goal.returns
returns c = methods_hold
