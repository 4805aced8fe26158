use Rattle.trick_exec_laws.proofs.Rounds.{own_without_rounds}
use Rattle.trick_exec_laws.proofs.laws.runs_without_rounds_are_own.Goals as goal
use Rattle.trick_exec_meaning.specs.Hosts.{hosts}

pub returns : goal.returns
returns g c = λ plan s old new result lacks source run.
    own_without_rounds (hosts g.F.Shelf g.T.Turns g.P.Posts) g.M.Cells.numbers plan lacks s old new result run source
