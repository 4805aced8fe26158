use Rattle.std.proofs.Common.{◌≡◌, drop}
use Rattle.trick_check_order.proofs.callees.are_below.Given as goal
use Rattle.trick_check_order.specs.Calls.{all_below}

-- what is left is below where all is
abbrev pub invariant-loop-number : goal.invariant-loop-number
invariant-loop-number l = all_below l.limit (drop l.number-index l.numbers) ≡ all_below l.limit l.numbers
