use Rattle.trick_chkpt_state.proofs.Converse.{states_have_checkpoints}
use Rattle.trick_chkpt_state.proofs.laws.states_have_checkpoints.Goals as goal

pub returns : goal.returns
returns c = states_have_checkpoints
