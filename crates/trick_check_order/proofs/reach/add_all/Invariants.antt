use Rattle.std.proofs.Common.{take}
use Rattle.trick_check_order.proofs.reach.add_all.Given as goal
use Rattle.trick_check_order.specs.Reached.{Adds}

-- those so far are added
abbrev pub invariant-loop-callee : goal.invariant-loop-callee
invariant-loop-callee l = Adds (take l.callee-index l.callees) l.fn.seen.items l.fn.queue.items l.seen.items l.queue.items
