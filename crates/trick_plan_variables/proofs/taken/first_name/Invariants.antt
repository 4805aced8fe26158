use Rattle.std.proofs.Common.{◌≡◌, ◌++◌, drop, take}
use Rattle.trick_plan_variables.proofs.taken.first_name.Given as goal
use Rattle.trick_plan_variables.specs.Cells.{first_name}

abbrev pub invariant-loop-byte : goal.invariant-loop-byte
invariant-loop-byte l = record {
  at : l.end ≡ l.byte-index;
  so_far : take l.end l.name ++ first_name (drop l.end l.name) ≡ first_name l.name;
}
