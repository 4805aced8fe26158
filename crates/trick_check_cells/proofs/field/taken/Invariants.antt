use Rattle.std.proofs.Common.{◌≡◌, ◌++◌, drop}
use Rattle.trick_check_cells.proofs.field.taken.Given as goal
use Rattle.trick_check_cells.specs.Tables.{taken}

-- what is made and what is left are all
abbrev pub invariant-loop-size : goal.invariant-loop-size
invariant-loop-size l = l.all ++ taken (drop l.size-index l.sizes) ≡ taken l.sizes
