use Rattle.trick_exec_laws.proofs.Once.{makes_once}
use Rattle.trick_exec_laws.proofs.laws.files_are_made_once.Goals as goal

pub returns : goal.returns
returns c = λ plan s lists. makes_once plan s lists
