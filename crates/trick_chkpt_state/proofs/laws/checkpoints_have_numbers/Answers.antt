use Rattle.trick_chkpt_state.proofs.Whole.{checkpoints_have_numbers}
use Rattle.trick_chkpt_state.proofs.laws.checkpoints_have_numbers.Goals as goal

pub returns : goal.returns
returns c = checkpoints_have_numbers
