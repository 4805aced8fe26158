use Rattle.trick_check_order.proofs.search.searched.Given as goal
use Rattle.trick_check_order.specs.Searching.{Keeps, left}

abbrev pub invariant-loop-search : goal.invariant-loop-search
invariant-loop-search l = Keeps l.calls l.search

abbrev pub decreases-loop-search : goal.decreases-loop-search
decreases-loop-search l = left l.calls l.search
