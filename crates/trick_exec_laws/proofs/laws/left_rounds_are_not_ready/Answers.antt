use Rattle.trick_exec_laws.proofs.Counts.{left_counted}
use Rattle.trick_exec_laws.proofs.laws.left_rounds_are_not_ready.Goals as goal

pub returns : goal.returns
returns c = λ plan w lists polls waits chosen. left_counted plan w lists polls waits chosen
