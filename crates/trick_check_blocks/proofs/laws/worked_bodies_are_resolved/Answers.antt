use Rattle.trick_check_blocks.proofs.Worked.{resolved}
use Rattle.trick_check_blocks.proofs.laws.worked_bodies_are_resolved.Goals as goal

pub returns : goal.returns
returns c = resolved
