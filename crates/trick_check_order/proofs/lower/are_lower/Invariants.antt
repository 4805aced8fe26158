use Rattle.std.proofs.Common.{◌≡◌, drop}
use Rattle.trick_check_order.proofs.lower.are_lower.Given as goal
use Rattle.trick_check_order.specs.Ranked.{are_lower}

-- what is left is lower where all is
abbrev pub invariant-loop-method : goal.invariant-loop-method
invariant-loop-method l = are_lower l.ranks l.limit (drop l.method-index l.methods) ≡ are_lower l.ranks l.limit l.methods
