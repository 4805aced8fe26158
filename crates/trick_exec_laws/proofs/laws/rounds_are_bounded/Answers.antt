use Rattle.trick_exec_laws.proofs.Waits.{rounds_bounded}
use Rattle.trick_exec_laws.proofs.laws.rounds_are_bounded.Goals as goal

pub returns : goal.returns
returns c = λ p w lists polls waits chosen. rounds_bounded p w lists polls waits chosen
