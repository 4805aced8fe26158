use Rattle.trick_check_blocks.proofs.Rowed.{kept_grows}
use Rattle.trick_check_blocks.proofs.laws.kept_law.Goals as goal

pub returns : goal.returns
returns c = kept_grows
