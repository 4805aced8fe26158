use Rattle.trick_exec.proofs.OwnRuns.{own_run}
use Rattle.trick_exec.proofs.laws.runs_alone_are_own.Goals as goal

pub returns : goal.returns
returns g c = λ plan s old new result alone run. own_run _ _ plan s old new result alone run
