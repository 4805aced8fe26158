use Rattle.trick_exec_laws.proofs.Late.{left_late}
use Rattle.trick_exec_laws.proofs.laws.left_rounds_are_late.Goals as goal

pub returns : goal.returns
returns g c = λ plan s lists last old new done undecided.
    left_late g.P.Posts g.met.P.Posts.asked_late plan s lists _ old.posts new.posts done.asks undecided
