use Rattle.trick_chkpt_state.proofs.Whole.{checkpoints_are_of_states}
use Rattle.trick_chkpt_state.proofs.laws.checkpoints_are_of_states.Goals as goal

pub returns : goal.returns
returns c = checkpoints_are_of_states
