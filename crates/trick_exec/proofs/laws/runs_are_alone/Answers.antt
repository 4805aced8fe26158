use Rattle.trick_exec.proofs.OwnRuns.{alone_run}
use Rattle.trick_exec.proofs.laws.runs_are_alone.Goals as goal

pub returns : goal.returns
returns g c = λ plan s old new result alone run. alone_run _ _ c.runs_join.ensures plan s old new result alone run
