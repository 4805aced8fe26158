use Rattle.std.proofs.Common.{◌≤◌}
use Rattle.trick_access.proofs.reach.pages.last_below.Given as goal
use Rattle.trick_access.specs.Reached.{AreUnmarked}

-- no block that was passed is marked
abbrev pub invariant-loop-end : goal.invariant-loop-end
invariant-loop-end l = record {
  passed : AreUnmarked l.marks l.end l.left;
  end : l.end ≤ l.left;
}

abbrev pub decreases-loop-end : goal.decreases-loop-end
decreases-loop-end l = l.end
