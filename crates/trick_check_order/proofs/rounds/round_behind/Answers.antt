use Rattle.std.proofs.Common.{arith}
use Rattle.trick_check_order.proofs.ByRound.{behind_all, behind_more}
use Rattle.trick_check_order.proofs.rounds.round_behind.Goals as goal

pub loop-method-preserved : goal.loop-method-preserved
loop-method-preserved c =
    behind_more c.args.rounds.now c.args.methods.now c.loop-method.method-index c.loop-method.round c.max-round.result c.loop-method-test.true c.loop-method.invariant c.max-round.ensures

pub returns : goal.returns
returns c = behind_all c.args.rounds.now c.args.methods.now c.loop-method.method-index c.loop-method.round (omega arith) c.loop-method.invariant
