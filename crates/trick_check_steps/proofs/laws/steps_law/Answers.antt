use Rattle.trick_check_steps.proofs.Blocks.{counts_are}
use Rattle.trick_check_steps.proofs.laws.steps_law.Goals as goal

pub returns : goal.returns
returns c = counts_are
