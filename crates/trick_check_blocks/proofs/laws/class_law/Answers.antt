use Rattle.trick_check_blocks.proofs.Made.{keeps_class}
use Rattle.trick_check_blocks.proofs.laws.class_law.Goals as goal

pub returns : goal.returns
returns c = keeps_class
