use Rattle.std.proofs.Common.{false, get_or, arith}
use Rattle.trick_check.proofs.Used.{marked, passed}
use Rattle.trick_check.proofs.walk.mark.Goals as goal

pub returns-then-place-len-clause-marked : goal.returns-then-place-len-clause-marked
returns-then-place-len-clause-marked c = λ k rest less. passed c.args.class k (get_or c.args.used.now.items k false) rest (omega arith)

pub returns-clause-marked : goal.returns-clause-marked
returns-clause-marked c = λ k rest less. marked c.args.used.now.items c.args.class k rest (omega arith)
