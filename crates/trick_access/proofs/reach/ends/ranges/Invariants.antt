use Rattle.std.proofs.Common.{◌≡◌, ◌++◌, ◌-◌, None, length, take}
use Rattle.trick_access.proofs.reach.ends.ranges.Given as goal
use Rattle.trick_access.specs.Reached.{IsBegun, is_reached, most, spans}

-- what was made and what comes of the cells that are left are the ranges of all
abbrev pub invariant-loop-cell : goal.invariant-loop-cell
invariant-loop-cell l = record {
  told : l.made ++ spans (is_reached l.ends) l.cell (length l.ends - l.cell) l.began ≡ spans (is_reached l.ends) 0 (length l.ends) None;
  most : l.end ≡ most (take l.cell l.ends);
  begun : IsBegun l.began l.cell;
}
