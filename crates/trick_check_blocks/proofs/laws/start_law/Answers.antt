use Rattle.trick_check_blocks.proofs.Made.{keeps_start}
use Rattle.trick_check_blocks.proofs.laws.start_law.Goals as goal

pub returns : goal.returns
returns c = keeps_start
