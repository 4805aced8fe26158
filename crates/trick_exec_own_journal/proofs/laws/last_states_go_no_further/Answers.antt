use Rattle.trick_exec_own_journal.proofs.Last.{no_further}
use Rattle.trick_exec_own_journal.proofs.laws.last_states_go_no_further.Goals as goal

pub returns : goal.returns
returns c = λ p s lists entries end most. no_further p s lists entries end most
