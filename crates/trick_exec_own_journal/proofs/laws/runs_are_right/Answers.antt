use Rattle.trick_exec_own_journal.proofs.Rightness.{right_of}
use Rattle.trick_exec_own_journal.proofs.laws.runs_are_right.Goals as goal
use Rattle.trick_exec_meaning.specs.Hosts.{hosts}

pub returns : goal.returns
returns g c = λ p s lists last old new done. right_of (hosts g.F.Shelf g.T.Turns g.P.Posts) p s lists last old new done
