use Rattle.std.proofs.Common.{arith, below_more}
use Rattle.trick_check_order.proofs.reach.first_of_all.Goals as goal

pub returns-then-branch : goal.returns-then-branch
returns-then-branch c = (c.loop-method-test.true, c.in_ok-reaches_itself.ensures.yes c.if-branch.true, c.loop-method.invariant)

pub loop-method-preserved : goal.loop-method-preserved
loop-method-preserved c = below_more _ _ c.loop-method.invariant (c.in_ok-reaches_itself.ensures.no c.if-branch.false)

pub returns : goal.returns
returns c = λ a h. c.loop-method.invariant a (omega arith)
