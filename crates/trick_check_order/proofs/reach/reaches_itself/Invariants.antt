use Rattle.std.proofs.Common.{◌+◌, ◌-◌, length}
use Rattle.trick_check_order.proofs.reach.reaches_itself.Given as goal
use Rattle.trick_check_order.specs.Reached.{Reached, unseen}

abbrev pub invariant-loop-head : goal.invariant-loop-head
invariant-loop-head l = Reached l.calls l.method l.seen.items l.queue.items l.head

abbrev pub decreases-loop-head : goal.decreases-loop-head
decreases-loop-head l = unseen l.seen.items + (length l.queue.items - l.head)
