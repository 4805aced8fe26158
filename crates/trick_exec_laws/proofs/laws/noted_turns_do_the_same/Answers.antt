use Rattle.trick_exec_laws.proofs.Same.{do_same}
use Rattle.trick_exec_laws.proofs.laws.noted_turns_do_the_same.Goals as goal

pub returns : goal.returns
returns c = λ p w lists. do_same p w lists
