use Rattle.std.proofs.Common.{◌≡◌, take}
use Rattle.trick_queue.proofs.queues.times_of.Given as goal
use Rattle.trick_queue.specs.Groups.{times_by}

abbrev pub invariant-loop-group : goal.invariant-loop-group
invariant-loop-group l = l.times.items ≡ times_by (take l.group-index l.groups)
