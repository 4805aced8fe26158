use Rattle.std.proofs.Common.{◌≡◌, drop}
use Rattle.trick_check_order.proofs.callees.each_is_below.Given as goal
use Rattle.trick_check_order.specs.Calls.{each_below}

-- what is left is below where all is
abbrev pub invariant-loop-callees : goal.invariant-loop-callees
invariant-loop-callees l = each_below l.limit (drop l.callees-index l.calls) ≡ each_below l.limit l.calls
