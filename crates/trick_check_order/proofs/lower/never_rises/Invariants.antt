use Rattle.std.proofs.Common.{◌≡◌, ℕ, suc, ◌<◌, true, get_or}
use Rattle.trick_check_order.proofs.lower.never_rises.Given as goal
use Rattle.trick_check_order.specs.Calls.{callees}
use Rattle.trick_check_order.specs.Ranked.{are_lower}

abbrev pub invariant-loop-method : goal.invariant-loop-method
invariant-loop-method l = (a : ℕ) → a < l.method → are_lower l.ranks (suc (get_or l.ranks a 0)) (callees l.calls a) ≡ true
